use Rattle.std.proofs.Common.{◌≡◌, [], ◌∷◌, ◌++◌, sym, ap, ◌∙◌, arith, option_to_list}
use Rattle.usage_ledger.specs.Tallies.{Held, Tallied}
use Rattle.account_lock.specs.Gathered.{parts_in, counts_in}
use Rattle.account_lock.proofs.Gathering.{parts_in-push, counts_in-push, taken}
use Rattle.account_lock.proofs.settle.gather.Goals as goal

pub loop-tally-init : goal.loop-tally-init
loop-tally-init g c =
    let rest = c.pop.new.self.items in
    let all = c.in_ok-all.all in
    let is : c.args.tallies.items ≡ rest ++ all ∷ [] = c.pop.ensures.items ∙ ap (λ o. rest ++ option_to_list o) c.in_ok-all.was in
    record {
      parts = sym (ap parts_in is ∙ parts_in-push rest all);
      counts = sym (ap counts_in is ∙ counts_in-push rest all);
    }

pub loop-tally-preserved : goal.loop-tally-preserved
loop-tally-preserved g c =
    let rest = c.pop-in-loop-tally.new.self.items in
    let tally = c.in-Some.tally in
    let is : c.loop-tally.tallies.items ≡ rest ++ tally ∷ [] = c.pop-in-loop-tally.ensures.items ∙ ap (λ o. rest ++ option_to_list o) c.in-Some.is in
    let parts = ap parts_in is ∙ parts_in-push rest tally in
    let held = ap (λ (t : Tallied). t.held) c.absorb.ensures in
    let more = ap (λ (s : Held). s.parts) held in
    record {
      parts = omega (arith, parts, more, c.loop-tally.invariant.parts);
      counts =
          taken c.args.tallies.items c.loop-tally.tallies.items rest tally c.absorb.new.self.held.counts c.loop-tally.all.held.counts is
          (ap (λ (s : Held). s.counts) held) c.loop-tally.invariant.counts;
    }
