-- The text of a history is that of its parts.
use Rattle.std.proofs.Common.{◌≡◌, ℕ, zero, suc, ◌+◌, ◌-◌, List, [], ◌∷◌, ◌++◌, length, reverse, get_or, slice_index_or}
use Rattle.std.proofs.Common.{refl, sym, ap, ◌∙◌, arith, append_assoc, length-append}
use Rattle.std.specs.List.{flat_map}
use Rattle.std.proofs.Math.Seq.{get_or-append_seam}
use Rattle.std.proofs.lemmas.List.{append-nil, get_or-reverse}
use Rattle.arn_ids.specs.Environments.{count_from}
use Rattle.arn_ids.specs.declared.config.Config.{Config}
use Rattle.call_types.specs.declared.call.Entry.{Entry}
use Rattle.script.specs.AnswerText.{entry_text}
use Rattle.account_book.specs.HistoryText.{opening_text, entries_text, history_text}

-- what is made of one number more
one_more : (g : ℕ → List ℕ) (a n : ℕ) → flat_map g (count_from a (suc n)) ≡ flat_map g (count_from a n) ++ g (a + n)
one_more g a zero = let same : a ≡ a + 0 = omega arith in append-nil (g a) ∙ ap g same
one_more g a (suc n) =
    let same : suc a + n ≡ a + suc n = omega arith in
    ap (λ (t : List ℕ). g a ++ t) (one_more g (suc a) n ∙ ap (λ (k : ℕ). flat_map g (count_from (suc a) n) ++ g k) same)
    ∙ sym (append_assoc (g a) (flat_map g (count_from (suc a) n)) (g (a + suc n)))

-- an entry's number is how many are older
stands_at : (newer : List Entry) (entry : Entry) (older : List Entry) (d : Entry) → slice_index_or (reverse (newer ++ entry ∷ older)) (length older) d ≡ entry
stands_at newer entry older d =
    let long : length (newer ++ entry ∷ older) ≡ length newer + suc (length older) = length-append newer (entry ∷ older) in
    let place : length (newer ++ entry ∷ older) - 1 - length older ≡ length newer = omega (arith, long) in
    get_or-reverse (newer ++ entry ∷ older) (length older) d (omega (arith, long))
    ∙ ap (λ (k : ℕ). get_or (newer ++ entry ∷ older) k d) place
    ∙ get_or-append_seam newer entry older d

-- the text of the entry with a number
abbrev part : Config → ℕ → List Entry → Entry → ℕ → List ℕ
part config salt h d t = entry_text config salt h t (slice_index_or (reverse h) t d)

entries_in_parts : (config : Config) (salt : ℕ) (h newer older : List Entry) (d : Entry) → newer ++ older ≡ h
    → entries_text config salt h older ≡ flat_map (part config salt h d) (count_from 0 (length older))
entries_in_parts config salt h newer [] d is = refl
entries_in_parts config salt h newer (entry ∷ older) d is =
    let g : ℕ → List ℕ = part config salt h d in
    let there : entry ≡ slice_index_or (reverse h) (length older) d = sym (stands_at newer entry older d) ∙ ap (λ (k : List Entry). slice_index_or (reverse k) (length older) d) is in
    let number : length older ≡ 0 + length older = omega arith in
    ap (λ (t : List ℕ). t ++ entry_text config salt h (length older) entry)
    (entries_in_parts config salt h (newer ++ entry ∷ []) older d (append_assoc newer (entry ∷ []) older ∙ is))
    ∙ ap (λ (e : Entry). flat_map g (count_from 0 (length older)) ++ entry_text config salt h (length older) e) there
    ∙ ap (λ (k : ℕ). flat_map g (count_from 0 (length older)) ++ g k) number
    ∙ sym (one_more g 0 (length older))

pub text_in_parts : (config : Config) (salt max_entries : ℕ) (h : List Entry) (d : Entry)
    → history_text config salt max_entries h ≡ opening_text config salt max_entries ++ flat_map (λ t. entry_text config salt h t (slice_index_or (reverse h) t d)) (count_from 0 (length h))
unfolding history_text
text_in_parts config salt max_entries h d = ap (λ (t : List ℕ). opening_text config salt max_entries ++ t) (entries_in_parts config salt h [] h d refl)
