use Rattle.std.proofs.Common.{◌≡◌, ◌<◌, ◌≤◌, ◌+◌, ◌-◌, ◌++◌, ℕ, arith, sym, ap, ◌∙◌, length, get_or, List, map, take, drop, set, All}
use Rattle.std.proofs.lemmas.List.Elements.{All-get_or}
use Rattle.fleet.specs.declared.site.Site.{Site}
use Rattle.account_book.specs.Crew.{Crew}
use Rattle.fleet.specs.Sites.{IsFew}
use Rattle.account_book.specs.Fleets.{no_site, site_at, moves_at, moved, crew}
use Rattle.account_book.specs.declared.crew.Fleet.TheInside.{Inside}
use Rattle.call_types.specs.declared.call.Call.{Call}
use Rattle.concurrency_pool.specs.Numbers.{Numbers}
use Rattle.fleet.proofs.Loops.{not_yet, as_many}
use Rattle.account_book.proofs.Loops.{visit_one}
use Rattle.account_book.proofs.Visits.{site_is_at, flown_length}
use Rattle.account_book.proofs.crew.Fleet.take_all.Goals as goal

-- the environment that comes next has not taken the call
next_is : (move : Site → Site) (sites now : List Site) (n : ℕ) → now ≡ map move (take n sites) ++ drop n sites
    → n < length sites → site_at now (n + 1) ≡ get_or sites n no_site
next_is move sites now n is lt =
    let long : n + 1 ≤ length now = rw (is, as_many move sites n) (omega (arith, lt)) in
    let back : n + 1 - 1 ≡ n = omega arith in
    site_is_at now (n + 1) no_site (omega arith) long ∙ ap (λ i. get_or now i no_site) back
    ∙ ap (λ xs. get_or xs n no_site) is ∙ not_yet move sites n no_site lt

within : (f : Inside) (w : Crew) (i n : ℕ) → crew f ≡ w → i < n → n ≡ length f.sites.items → i < length w.sites
within f w i n view lt is = let le : length f.sites.items ≡ length w.sites = ap (λ (k : Crew). length k.sites) view in omega (arith, lt, is, le)

few_moves : (ticket now : ℕ) (requests : List ℕ) (call : Call) (sites : List Site) (i : ℕ)
    → All (λ s. length (moves_at ticket now requests call s) ≤ 13) sites → i < length sites
    → length (moves_at ticket now requests call (get_or sites i no_site)) ≤ 13
few_moves ticket now requests call sites i few lt = All-get_or (λ (s : Site). length (moves_at ticket now requests call s) ≤ 13) sites i no_site lt few

pub take_at-requires-clause-counted : goal.take_at-requires-clause-counted
take_at-requires-clause-counted c =
    c.requires.counted
    ∙ sym (ap (λ (p : Numbers). length p.functions) c.loop-index.invariant.pool ∙ flown_length c.loop-index.self.sites 1 c.args.self.now.pool.functions)

pub take_at-requires-clause-short : goal.take_at-requires-clause-short
take_at-requires-clause-short c = rw c.requires.unnamed tt

pub take_at-requires-clause-few : goal.take_at-requires-clause-few
take_at-requires-clause-few c =
    let lt : c.loop-index.index < length c.args.self.now.sites = within c.self.inside c.args.self.now c.loop-index.index (length c.as_slice-index-end.result.now) c.self.view_is c.loop-index-test.true (ap length c.as_slice-index-end.ensures.value) in
    rw (next_is _ c.args.self.now.sites c.loop-index.self.sites c.loop-index.index c.loop-index.invariant.sites lt)
    (All-get_or IsFew c.args.self.now.sites c.loop-index.index no_site lt c.requires.few)

pub take_at-requires-clause-room : goal.take_at-requires-clause-room
take_at-requires-clause-room c =
    let lt : c.loop-index.index < length c.args.self.now.sites = within c.self.inside c.args.self.now c.loop-index.index (length c.as_slice-index-end.result.now) c.self.view_is c.loop-index-test.true (ap length c.as_slice-index-end.ensures.value) in
    rw (next_is _ c.args.self.now.sites c.loop-index.self.sites c.loop-index.index c.loop-index.invariant.sites lt)
    (omega (arith, few_moves c.args.arrival.now.ticket c.args.arrival.now.moment c.args.arrival.now.requests.now c.args.arrival.now.call.now c.args.self.now.sites c.loop-index.index c.requires.gives_few lt, c.loop-index.invariant.room, c.requires.room, lt))

pub loop-index-preserved : goal.loop-index-preserved
loop-index-preserved c =
    let lt : c.loop-index.index < length c.args.self.now.sites = within c.self.inside c.args.self.now c.loop-index.index (length c.as_slice-index-end.result.now) c.self.view_is c.loop-index-test.true (ap length c.as_slice-index-end.ensures.value) in
    let s : Site = site_at c.loop-index.self.sites (c.loop-index.index + 1) in
    let is : s ≡ get_or c.args.self.now.sites c.loop-index.index no_site = next_is _ c.args.self.now.sites c.loop-index.self.sites c.loop-index.index c.loop-index.invariant.sites lt in
    let back : c.loop-index.index + 1 - 1 ≡ c.loop-index.index = omega arith in
    visit_one
    (moved c.args.arrival.now.ticket c.args.arrival.now.moment c.args.arrival.now.requests.now c.args.arrival.now.call.now)
    (moves_at c.args.arrival.now.ticket c.args.arrival.now.moment c.args.arrival.now.requests.now c.args.arrival.now.call.now) c.loop-index.index c.args.self.now c.loop-index.self c.take_at.new.self c.args.answers.now c.loop-index.answers c.take_at.new.answers s c.loop-index.invariant lt is
    (c.take_at.ensures.sites ∙ ap (λ i. set c.loop-index.self.sites i (moved c.args.arrival.now.ticket c.args.arrival.now.moment c.args.arrival.now.requests.now c.args.arrival.now.call.now s)) back)
    c.take_at.ensures.pool (c.take_at.ensures.widest c.requires.unnamed) c.take_at.ensures.answers c.take_at.ensures.room
    (rw is (few_moves c.args.arrival.now.ticket c.args.arrival.now.moment c.args.arrival.now.requests.now c.args.arrival.now.call.now c.args.self.now.sites c.loop-index.index c.requires.gives_few lt))
