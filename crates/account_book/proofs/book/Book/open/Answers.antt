use Rattle.std.proofs.Common.{◌≡◌, ◌≤◌, ◌+◌, ◌^◌, ℕ, length, ap, ◌∙◌, arith, [], false, nat_lt}
use Rattle.std.proofs.lemmas.Bool.Decides.{nat_tests}
use Rattle.std.specs.Arc.{arc_value}
use Rattle.arn_ids.specs.declared.config.Config.{Config}
use Rattle.arn_ids.specs.Environments.{owners}
use Rattle.lambda_wire.specs.Ranges.{IsConfigInRange}
use Rattle.call_model.specs.Counts.{full}
use Rattle.call_types.specs.declared.call.Call.TheVariants.{Stop}
use Rattle.account_book.specs.declared.book.Book.TheInside.{Inside}
use Rattle.account_book.specs.Books.{IsBook}
use Rattle.account_book.specs.Pages.{Pages}
use Rattle.account_book.proofs.Reaching.{reached_first}
use Rattle.account_book.proofs.RoomMeets.{full_is}
use Rattle.account_book.proofs.book.Book.open.Goals as goal

empty_room : (config : Config) (max : ℕ) → length (owners config) + 1 ≤ max → full config max [] Stop ≡ false
empty_room config max le = full_is config max [] Stop ∙ less (length (owners config)) le
  where
    less : (n : ℕ) → n + 1 ≤ max → nat_lt max (0 + (n + 1)) ≡ false
    less n k = grind (arith, nat_tests, k)

begun : (b : Inside) (config : Config) → b.journal ≡ record { config = config; history = []; room = 0; widest = 0 }
    → length (owners config) + 1 ≤ b.max_entries → b.max_entries ≤ 2 ^ 32 → IsConfigInRange config → IsBook b
begun b config is le few fits = record {
  in_range = rw (ap (λ (p : Pages). p.config) is) fits;
  room = rw (ap (λ (p : Pages). p.config) is) le;
  few = few;
  reached = rw (ap (λ (p : Pages). p.config) is, ap (λ (p : Pages). p.history) is) (reached_first config b.max_entries);
  stop = rw (ap (λ (p : Pages). p.config) is, ap (λ (p : Pages). p.history) is) (λ q. empty_room config b.max_entries le);
}

pub invariant_of-result : goal.invariant_of-result
invariant_of-result c =
    begun _ (arc_value c.args.config) c.in_ok-open.ensures
    (omega (arith, c.if-max_entries-from.false, c.from.ensures, rw c.deref.ensures at c.environments.ensures))
    (omega (arith, c.if-max_entries.false)) (rw c.deref-2.ensures at c.config_fits.ensures)
