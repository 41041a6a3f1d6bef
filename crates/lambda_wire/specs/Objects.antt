-- The members that a JSON object has so far.
use Rattle.std.specs.Prelude.{ℕ, ◌≡◌, false, List, Option, Some, None}
use Rattle.serde_json.specs.Data.{Data, Members, put}
use Rattle.serde_json.specs.View.{members_view}
use Rattle.lambda_wire.specs.declared.object_writer.ObjectWriter.{ObjectWriter}

-- The writer has these members, unless memory ran out.
pub record Holds (writer : ObjectWriter) (members : Members) : Type 0 where
  pub unless_cut : writer.is_cut ≡ false → members_view writer.members.entries ≡ members

-- The members, with `d` at key `k` if there is a `d`.
abbrev pub put_if_any : List ℕ → Option Data → Members → Members
put_if_any k None ms = ms
put_if_any k (Some d) ms = put k d ms
