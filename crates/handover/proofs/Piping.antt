-- What holds of a body that is passed on, from the first event to the last.
use Rattle.std.proofs.Common.{◌≡◌, ℕ, ◌≤◌, Bool, true, false, List, [], ◌∷◌, ◌++◌, length, take, refl, sym, ◌∙◌, ap, arith}
use Rattle.std.proofs.lemmas.List.{append-nil, append_assoc, length-take}
use Rattle.handover.specs.declared.pipe.Ending.{Ending}
use Rattle.handover.specs.declared.pipe.Ending.TheVariants as endings
use Rattle.handover.specs.declared.pipe.Put.{Put}
use Rattle.handover.specs.declared.pipe.Put.TheVariants.{Done, Full, Over}
use Rattle.handover.specs.declared.pipe.Taken.TheVariants as takes
use Rattle.handover.specs.Pipes.{Passing, Event, Puts, Takes, Finishes, BreaksOff, Abandons, most_held, room, room_by, accepted, held_with}
use Rattle.handover.specs.Pipes.{after, run, emptied, put, got, all_put, all_got, is_open, taken, taken_by, ending_by}

-- What was put in is what was taken out and more: what is held, unless the receiver has gone away, and then nothing is
-- held.
pub record Stands (p : Passing) (were_put were_got : List ℕ) : Type 0 where
  pub more : List ℕ
  pub is : were_put ≡ were_got ++ more
  pub held : p.is_abandoned ≡ false → more ≡ p.held
  pub gone : p.is_abandoned ≡ true → p.held ≡ []

-- Where there is room, nothing is held, and the receiver is there.
done_at : (gone : Bool) (ending : Ending) (held : List ℕ) → room_by gone ending held ≡ Done
    → (gone ≡ false) × (held ≡ [])
done_at true ending held is = cc
done_at false endings.Open [] is = (refl, refl)
done_at false endings.Open (b ∷ bs) is = cc
done_at false endings.Whole held is = cc
done_at false endings.Broken held is = cc

module _ (p : Passing) (a b : List ℕ) (x : Stands p a b) where
  same_bytes : (q : Passing) → q.is_abandoned ≡ p.is_abandoned → q.held ≡ p.held → Stands q (a ++ []) (b ++ [])
  same_bytes q gone held = record {
    more = x.more;
    is = rw (append-nil a, append-nil b) x.is;
    held = λ here. x.held (sym gone ∙ here) ∙ sym held;
    gone = λ is. held ∙ x.gone (sym gone ∙ is);
  }

  put_by : (bytes : List ℕ) (r : Put) → room p ≡ r
      → Stands (record p { held = held_with r bytes p.held }) (a ++ accepted r bytes) (b ++ [])
  put_by bytes Full is = same_bytes _ refl refl
  put_by bytes Over is = same_bytes _ refl refl
  put_by bytes Done is =
      let at = done_at p.is_abandoned p.ending p.held is in
      let all : a ≡ b = x.is ∙ (ap (λ (m : List ℕ). b ++ m) (x.held at.0 ∙ at.1) ∙ append-nil b) in
      record {
        more = take most_held bytes;
        is = rw (append-nil b) (ap (λ (l : List ℕ). l ++ take most_held bytes) all);
        held = λ here. refl;
        gone = λ gone. cc;
      }

  take_by : (gone : Bool) → p.is_abandoned ≡ gone → Stands (emptied p) (a ++ []) (b ++ p.held)
  take_by false is = record {
    more = [];
    is = rw (append-nil a, append-nil (b ++ p.held)) (x.is ∙ ap (λ (m : List ℕ). b ++ m) (x.held is));
    held = λ here. refl;
    gone = λ gone. refl;
  }
  take_by true is = record {
    more = x.more;
    is = rw (append-nil a, x.gone is, append-nil b) x.is;
    held = λ here. cc;
    gone = λ gone. refl;
  }

  stands_after : (event : Event) → Stands (after p event) (a ++ put p event) (b ++ got p event)
  stands_after (Puts bytes) = put_by bytes (room p) refl
  stands_after Takes = take_by p.is_abandoned refl
  stands_after Finishes = same_bytes _ refl refl
  stands_after BreaksOff = same_bytes _ refl refl
  stands_after Abandons = record {
    more = x.more;
    is = rw (append-nil a, append-nil b) x.is;
    held = λ here. cc;
    gone = λ gone. refl;
  }

pub stands_run : (p : Passing) (a b : List ℕ) (events : List Event) → Stands p a b
    → Stands (run p events) (a ++ all_put p events) (b ++ all_got p events)
stands_run p a b [] x = same_bytes p a b x p refl refl
stands_run p a b (event ∷ events) x =
    rw (sym (append_assoc a (put p event) (all_put (after p event) events)), sym (append_assoc b (got p event) (all_got (after p event) events)))
    (stands_run (after p event) (a ++ put p event) (b ++ got p event) events (stands_after p a b x event))

-- Who learns that the body has come to its end has taken all of it.
whole_at : (held : List ℕ) (gone : Bool) (ending : Ending) → taken_by held gone ending ≡ takes.Whole
    → (gone ≡ false) × (held ≡ [])
whole_at (b ∷ bs) gone ending is = cc
whole_at [] true ending is = cc
whole_at [] false endings.Open is = cc
whole_at [] false endings.Whole is = (refl, refl)
whole_at [] false endings.Broken is = cc

pub all_taken : (p : Passing) (a b : List ℕ) → Stands p a b → taken p ≡ takes.Whole → a ≡ b
all_taken p a b x is =
    let at = whole_at p.held p.is_abandoned p.ending is in
    x.is ∙ (ap (λ (m : List ℕ). b ++ m) (x.held at.0 ∙ at.1) ∙ append-nil b)

-- No more is held than may be.
few_with : (bytes held : List ℕ) (r : Put) → length held ≤ most_held → length (held_with r bytes held) ≤ most_held
few_with bytes held Done few = grind (arith, length-take most_held bytes)
few_with bytes held Full few = few
few_with bytes held Over few = few

few_after : (p : Passing) (event : Event) → length p.held ≤ most_held → length (after p event).held ≤ most_held
few_after p (Puts bytes) few = few_with bytes p.held (room p) few
few_after p Takes few = omega arith
few_after p Finishes few = few
few_after p BreaksOff few = few
few_after p Abandons few = omega arith

pub few_run : (p : Passing) (events : List Event) → length p.held ≤ most_held → length (run p events).held ≤ most_held
few_run p [] few = few
few_run p (event ∷ events) few = few_run (after p event) events (few_after p event few)

-- After the end nothing is put in.
over_at : (gone : Bool) (ending : Ending) (held : List ℕ) → is_open ending ≡ false → room_by gone ending held ≡ Over
over_at true ending held is = refl
over_at false endings.Open held is = cc
over_at false endings.Whole held is = refl
over_at false endings.Broken held is = refl

stays_ended : (now ending : Ending) → is_open ending ≡ false → is_open (ending_by now ending) ≡ false
stays_ended now endings.Open is = cc
stays_ended now endings.Whole is = refl
stays_ended now endings.Broken is = refl

module _ (p : Passing) (over : is_open p.ending ≡ false) where
  is_over : room p ≡ Over
  is_over = over_at p.is_abandoned p.ending p.held over

  over_after : (event : Event) → is_open (after p event).ending ≡ false
  over_after (Puts bytes) = over
  over_after Takes = over
  over_after Finishes = stays_ended endings.Whole p.ending over
  over_after BreaksOff = stays_ended endings.Broken p.ending over
  over_after Abandons = over

  puts_none : (event : Event) → put p event ≡ []
  puts_none (Puts bytes) = ap (λ (r : Put). accepted r bytes) is_over
  puts_none Takes = refl
  puts_none Finishes = refl
  puts_none BreaksOff = refl
  puts_none Abandons = refl

  module _ (none : p.held ≡ []) where
    none_after : (event : Event) → (after p event).held ≡ []
    none_after (Puts bytes) = ap (λ (r : Put). held_with r bytes p.held) is_over ∙ none
    none_after Takes = refl
    none_after Finishes = none
    none_after BreaksOff = none
    none_after Abandons = refl

    gives_none : (event : Event) → got p event ≡ []
    gives_none (Puts bytes) = refl
    gives_none Takes = none
    gives_none Finishes = refl
    gives_none BreaksOff = refl
    gives_none Abandons = refl

pub puts_no_more : (p : Passing) (events : List Event) → is_open p.ending ≡ false → all_put p events ≡ []
puts_no_more p [] over = refl
puts_no_more p (event ∷ events) over = rw (puts_none p over event) (puts_no_more (after p event) events (over_after p over event))

pub gives_no_more : (p : Passing) (events : List Event) → is_open p.ending ≡ false → p.held ≡ [] → all_got p events ≡ []
gives_no_more p [] over none = refl
gives_no_more p (event ∷ events) over none =
    rw (gives_none p over none event)
    (gives_no_more (after p event) events (over_after p over event) (none_after p over none event))
