-- What passed through a socket in any number of calls.
use Rattle.std.proofs.Common.{◌≡◌, ℕ, List, [], ◌∷◌, ◌++◌, refl, sym, ap, ◌∙◌, append_assoc, append-nil}
use Rattle.hyper.specs.Moves.{Moves, untouched, was_read, was_written}
use Rattle.hyper.specs.Server.{history}
use Rattle.hyper.specs.ServerLink.{IsTracked}
use Rattle.hyper.specs.declared.server.link.Link.{Link}
use Rattle.http_connection.specs.Wires.{Gives, IsFresh, Takes, given_by, name_of, taken_by}
use Rattle.http_connection.specs.declared.wire.Wire.{Wire}

joined : (a b c xs ys : List ℕ) → b ≡ a ++ xs → c ≡ b ++ ys → c ≡ a ++ (xs ++ ys)
joined a b c xs ys p q = q ∙ ap (λ zs. zs ++ ys) p ∙ append_assoc a xs ys

-- What it gave and took, and that it is the same socket.
abbrev pub HasMoved : Wire → List ℕ → List ℕ → Wire → Type 0
HasMoved first came gone last =
    (given_by last ≡ given_by first ++ came) × (taken_by last ≡ taken_by first ++ gone) × (name_of last ≡ name_of first)

pub moved : {first : Wire} {came gone : List ℕ} {last : Wire} → Moves Gives Takes first came gone last
    → HasMoved first came gone last
moved {first = first} untouched = (sym (append-nil (given_by first)), sym (append-nil (taken_by first)), refl)
moved {first = first} (was_read came gone more a b before r) =
    let x = moved before in
    (joined (given_by first) (given_by a) (given_by b) came more x.0 r.0, r.1 ∙ x.1, r.2 ∙ x.2)
moved {first = first} (was_written came gone more a b before w) =
    let x = moved before in
    (w.1 ∙ x.0, joined (taken_by first) (taken_by a) (taken_by b) gone more x.1 w.0, w.2 ∙ x.2)

first_of : {A : Type 0} → A → List (A × Unit {0}) → A
first_of default [] = default
first_of default (x ∷ xs) = x.0

-- What passed through the socket of a connection is what its history says.
pub passed : (link : Link Wire) (wire io : Wire) → IsFresh wire → IsTracked Gives Takes link
    → link.first.items ≡ (wire, tt) ∷ [] → io ≡ link.io
    → (given_by io ≡ (history link.core).received) × (taken_by io ≡ (history link.core).sent) × (name_of io ≡ name_of wire)
unfolding first_of
passed link wire io fresh tracked first is =
    let start_is : tracked.start ≡ wire = ap (first_of wire) (sym tracked.is_first ∙ first) in
    let x = moved tracked.moves in (
      ap given_by is ∙ x.0 ∙ ap (λ w. given_by w ++ (history link.core).received) start_is
          ∙ ap (λ bytes. bytes ++ (history link.core).received) fresh.0,
      ap taken_by is ∙ x.1 ∙ ap (λ w. taken_by w ++ (history link.core).sent) start_is
          ∙ ap (λ bytes. bytes ++ (history link.core).sent) fresh.1,
      ap name_of is ∙ x.2 ∙ ap name_of start_is,
    )
