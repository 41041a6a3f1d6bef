use Rattle.std.proofs.Common.{◌≡◌, ◌++◌, ◌∷◌, ap, sym, ◌∙◌, lit<, Some, refl, arith}
use Rattle.std.proofs.lemmas.Slice.Eq.{bytes_eq-Decides}
use Rattle.std.proofs.lemmas.Str.Pattern.{split_parts}
use Rattle.http_routes.proofs.ParamRoutes.{all_but_slashes}
use Rattle.http_routes.proofs.routes.part_between.Goals as goal

pub returns-then-eq : goal.returns-then-eq
returns-then-eq c =
    let stripped = c.in_ok-rest.ensures.cases in
    let path : c.args.path.now ≡ c.args.front.now ++ c.in_ok-rest.rest.now = stripped.1.1 ∙ ap (λ l. c.args.front.now ++ l) (sym stripped.2) in
    let parts = split_parts 47 c.in_ok-rest.rest.now (Some (c.in_ok-part.part, c.in_ok-part.after)) c.in_ok-part.ensures.cases (lit< tt) in
    let part : c.in_ok-part.part.now ≡ c.in_ok-first.first.now ∷ c.in_ok-first.others.now = sym c.as_bytes-bytes.ensures.value ∙ c.in_ok-first.ensures.cases.0 in
    let back : c.in_ok-part.after.now ≡ c.args.back.now = (bytes_eq-Decides c.in_ok-part.after.now c.args.back.now).0 (sym c.if-eq.ensures) in
    let fit = rw c.in_ok-first.ensures.cases.0 at c.bytes_fit.ensures in (
      fit 0 0 (omega arith),
      rw (path, parts.0, part, back) refl,
      all_but_slashes (c.in_ok-first.first.now ∷ c.in_ok-first.others.now) (rw part at parts.1),
    )
