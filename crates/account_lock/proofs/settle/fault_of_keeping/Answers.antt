use Rattle.std.proofs.Common.{rules, ◌≡◌, Bool, true, false, sym, subst}
use Rattle.std.specs.List.{list_all}
use Rattle.account_lock.specs.Gathered.{keeps_nothing}
use Rattle.account_lock.specs.Settlement.{IsKept}
use Rattle.account_lock.proofs.KeepingNothing.{nothing_is_right}
use Rattle.account_lock.proofs.settle.fault_of_keeping.Goals as goal

pub returns-then-keep_nothing-clause-none : goal.returns-then-keep_nothing-clause-none
returns-then-keep_nothing-clause-none g c =
    let h = c.args.book.now.history in
    let tallies = c.args.tallies.now in
    let all : g.K.Keep.ALL ≡ false = search rules in
    let nothing : list_all keeps_nothing tallies ≡ true = search rules in
    subst (λ (all : Bool). IsKept all h tallies) (sym all) (nothing_is_right h tallies nothing)

pub returns-clause-none : goal.returns-clause-none
returns-clause-none g c = search rules
