use Rattle.std.proofs.Common.{◌∷◌, [], ◌∙◌, ℕ, List, codes, ap}
use Rattle.json.specs.Token.{key, string}
use Rattle.trace.proofs.Telling.{adds_same}
use Rattle.trace.proofs.draft.write_base64.Goals as goal

pub returns : goal.returns
returns c =
    adds_same _ _ _ _ _
    (ap (λ (text : List ℕ). key (codes "bodyBase64") ∷ string text ∷ []) (c.as_str.ensures.value ∙ c.in_ok-text.ensures.text)) c.write_text.ensures
