-- The name of a desk, and that of the desk at which a request was put.
use Rattle.std.specs.Prelude.{◌≡◌}
use Rattle.atomic_table.specs.Seated.{TableId}
use Rattle.handler_desk.specs.declared.desk.Desk.{Desk}
use Rattle.handler_desk.specs.declared.put.Put.{Put}

-- A desk is named by the word from which its identifiers are claimed.
abbrev pub name_of : Desk → TableId
name_of desk = desk.claims.table.shared.table_id

abbrev pub desk_of : Put → TableId
desk_of put = put.claim.seat.table_id

-- The request was put at this desk. Of two such requests the identifiers differ (`Desk::differ`).
abbrev pub IsPutAt : Desk → Put → Type 0
IsPutAt desk put = desk_of put ≡ name_of desk
