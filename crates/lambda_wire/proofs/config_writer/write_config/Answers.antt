use Rattle.std.proofs.Common.{◌≡◌, ap, ◌∙◌}
use Rattle.std.proofs.lemmas.Result.{IfOk-weaker}
use Rattle.serde_json.specs.View.{view}
use Rattle.serde_json.specs.Written.{compact_text}
use Rattle.lambda_wire.specs.ConfigurationText.{setup_data, setup_text}
use Rattle.lambda_wire.proofs.Again.{again_ok}
use Rattle.lambda_wire.proofs.Whole.{setup_whole}
use Rattle.lambda_wire.proofs.config_writer.write_config.Goals as goal

pub returns-clause-text : goal.returns-clause-text
unfolding setup_text
returns-clause-text c =
    let is : view c.in_ok-setup_value.field-0 ≡ setup_data c.args.config.now c.args.salt c.args.max_entries = c.in_ok-setup_value.ensures.value in
    IfOk-weaker c.to_vec.result _ _
    (λ b text. text (rw is (setup_whole c.args.config.now c.args.salt c.args.max_entries)) ∙ ap compact_text is) c.to_vec.ensures.text

pub returns-clause-read_back : goal.returns-clause-read_back
returns-clause-read_back c =
    let is : view c.in_ok-setup_value.field-0 ≡ setup_data c.args.config.now c.args.salt c.args.max_entries = c.in_ok-setup_value.ensures.value in
    again_ok c.to_vec.result _ c.args.config.now c.args.salt c.args.max_entries c.to_vec.ensures.utf8 c.to_vec.ensures.reads_back is c.in_ok-setup_value.ensures.in_range
