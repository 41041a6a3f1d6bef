use Rattle.std.proofs.Common.{◌<◌, length, All, sym, ◌∙◌, subst, arith}
use Rattle.memchr.specs.Find.{is_byte, Passes}
use Rattle.memchr.proofs.lemmas.CallerLemmas.{All-places}
use Rattle.http_connection.proofs.input.near_end.Goals as goal

pub returns-in-Some : goal.returns-in-Some
returns-in-Some c =
    let each = subst (All (λ k. (k < length c.args.bytes.now) × Passes (is_byte 10) c.args.bytes.now k))
    (sym c.memchr_iter.ensures.value ∙ c.in-Some.ensures.steps) (All-places (is_byte 10) c.args.bytes.now) in
    (each 0 0 (omega arith)).0
