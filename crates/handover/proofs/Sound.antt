-- What holds of a counter holds after each call.
use Rattle.std.proofs.Common.{◌≡◌, ℕ, ◌+◌, Bool, List, [], ◌∷◌, ◌++◌, Some, slice_get, sym, ◌∙◌, ap, arith}
use Rattle.std.proofs.lemmas.List.{map-append, append_assoc, append-nil}
use Rattle.std.proofs.lemmas.List.Sums.{sum_by-cons, sum_by-append}
use Rattle.std.specs.BTreeMap.{insert_entry}
use Rattle.std.specs.List.{filter}
use Rattle.std.proofs.lemmas.Map.Entries.{sum_by-remove_entry}
use Rattle.std.specs.Map.{lookup, remove_entry, keys_of, values_of}
use Rattle.std.specs.Ordering.{nat_cmp}
use Rattle.handover.specs.declared.request.Request.{Request}
use Rattle.handover.specs.Counters.{bytes_of, bytes_held, others_of, first_for}
use Rattle.handover.specs.Order.{Ascend, IsSound}
use Rattle.handover.proofs.Ascending.{ascend_wider, ascend_joined, ascend_parted, insert_last, ascend_removed, ascend_filtered}

-- The bytes of one more request are added.
pub held_with : (waiting : List (ℕ × Request)) (id : ℕ) (request : Request)
    → bytes_held (waiting ++ (id, request) ∷ []) ≡ bytes_held waiting + bytes_of request
held_with waiting id request =
    rw (map-append (λ (e : ℕ × Request). e.1) waiting ((id, request) ∷ []))
    (grind (arith, sum_by-append bytes_of (values_of waiting) (request ∷ []), sum_by-cons bytes_of request []))

module _ (waiting : List (ℕ × Request)) (taken : List (ℕ × ℕ)) (next bytes : ℕ) (sound : IsSound waiting taken next bytes) where
  abbrev parted : (mid : ℕ) × Ascend 0 (keys_of taken) mid × Ascend mid (keys_of waiting) next
  parted = ascend_parted 0 next (keys_of taken) (keys_of waiting) sound.ascend

  -- A request comes behind all that wait.
  pub put_last : (request : Request) → insert_entry nat_cmp waiting next request ≡ waiting ++ (next, request) ∷ []
  put_last request = insert_last parted.0 next waiting request parted.2

  pub sound_with : (request : Request) (sum : ℕ) → sum ≡ bytes_held waiting + bytes_of request
      → IsSound (waiting ++ (next, request) ∷ []) taken (next + 1) sum
  sound_with request sum is =
      let one : Ascend next (next ∷ []) (next + 1) = (omega arith, omega arith) in
      let keys : Ascend parted.0 (keys_of waiting ++ next ∷ []) (next + 1) = ascend_joined parted.0 next (next + 1) (keys_of waiting) (next ∷ []) parted.2 one in
      record {
        ascend = ascend_joined 0 parted.0 (next + 1) (keys_of taken) (keys_of (waiting ++ (next, request) ∷ [])) parted.1
            (rw (map-append (λ (e : ℕ × Request). e.0) waiting ((next, request) ∷ [])) keys);
        held = is ∙ sym (held_with waiting next request);
      }

  -- A request is no longer at its handler.
  pub sound_answered : (test : ℕ → Bool) → IsSound waiting (remove_entry test taken) next bytes
  sound_answered test = record {
    ascend = ascend_joined 0 parted.0 next (keys_of (remove_entry test taken)) (keys_of waiting)
        (ascend_removed test 0 parted.0 taken parted.1) parted.2;
    held = sound.held;
  }

  -- The requests of a handler are gone.
  pub sound_filtered : (test : ℕ × ℕ → Bool) → IsSound waiting (filter test taken) next bytes
  sound_filtered test = record {
    ascend = ascend_joined 0 parted.0 next (keys_of (filter test taken)) (keys_of waiting)
        (ascend_filtered test 0 parted.0 taken parted.1) parted.2;
    held = sound.held;
  }

  -- A request waits no longer.
  pub sound_removed : (test : ℕ → Bool) (left : ℕ) → left ≡ bytes_held (remove_entry test waiting)
      → IsSound (remove_entry test waiting) taken next left
  sound_removed test left is = record {
    ascend = ascend_joined 0 parted.0 next (keys_of taken) (keys_of (remove_entry test waiting)) parted.1
        (ascend_removed test parted.0 next waiting parted.2);
    held = is;
  }

-- The first request waits no longer.
pub sound_others : (waiting : List (ℕ × Request)) (taken : List (ℕ × ℕ)) (next bytes left : ℕ) → IsSound waiting taken next bytes
    → left ≡ bytes_held (others_of waiting) → IsSound (others_of waiting) taken next left
sound_others [] taken next bytes left sound is = record { ascend = sound.ascend; held = is }
sound_others (first ∷ others) taken next bytes left sound is =
    let parts = ascend_parted 0 next (keys_of taken) (first.0 ∷ keys_of others) sound.ascend in
    record {
      ascend = ascend_joined 0 parts.0 next (keys_of taken) (keys_of others) parts.1
          (ascend_wider (first.0 + 1) next parts.0 next (keys_of others) (omega (arith, parts.2.0)) (omega arith) parts.2.1);
      held = is;
    }

-- It is taken by a handler.
pub taken_last : (waiting : List (ℕ × Request)) (taken : List (ℕ × ℕ)) (next bytes handler id : ℕ) (request : Request)
    → slice_get waiting 0 ≡ Some (id, request) → IsSound waiting taken next bytes
    → insert_entry nat_cmp taken id handler ≡ taken ++ first_for handler waiting
taken_last [] taken next bytes handler id request is sound = cc
taken_last (first ∷ others) taken next bytes handler id request is sound =
    let parts = ascend_parted 0 next (keys_of taken) (first.0 ∷ keys_of others) sound.ascend in
    let same : first ≡ (id, request) = cc in
    let here : first.0 ≡ id = ap (λ (e : ℕ × Request). e.0) same in
    rw (sym here) (insert_last 0 first.0 taken handler (ascend_wider 0 parts.0 0 first.0 (keys_of taken) (omega arith) parts.2.0 parts.1))

pub sound_taken : (waiting : List (ℕ × Request)) (taken : List (ℕ × ℕ)) (next bytes handler left : ℕ) → IsSound waiting taken next bytes
    → left ≡ bytes_held (others_of waiting) → IsSound (others_of waiting) (taken ++ first_for handler waiting) next left
sound_taken [] taken next bytes handler left sound is = record {
  ascend = rw (append-nil taken) sound.ascend;
  held = is;
}
sound_taken (first ∷ others) taken next bytes handler left sound is = record {
  ascend = rw (map-append (λ (e : ℕ × ℕ). e.0) taken ((first.0, handler) ∷ []), append_assoc (keys_of taken) (first.0 ∷ []) (keys_of others)) sound.ascend;
  held = is;
}

-- The bytes of a request that waits no longer are given back.
pub held_without : (test : ℕ → Bool) (waiting : List (ℕ × Request)) (request : Request) → lookup test waiting ≡ Some request
    → bytes_held (remove_entry test waiting) + bytes_of request ≡ bytes_held waiting
held_without test waiting request there =
    let all = sum_by-remove_entry bytes_of test waiting in
    rw there at all
