-- The text of the environments, one after the other.
use Rattle.std.proofs.Common.{◌≡◌, ℕ, zero, suc, ◌+◌, false, List, [], ◌∷◌, ◌++◌, length, codes, decimal, flat_map, sym, ap, ap₂, ◌∙◌, arith, append_assoc}
use Rattle.std.proofs.lemmas.List.{append-nil}
use Rattle.arn_ids.specs.declared.config.Config.{Config}
use Rattle.arn_ids.specs.Environments.{count_from, environments, owners}
use Rattle.call_types.specs.declared.call.Entry.{Entry}
use Rattle.json.specs.Token.{Token, begin_object, end_object, begin_array, end_array, key, number}
use Rattle.trace.specs.EnvironmentObject.{environments_object, object_at}
use Rattle.trace.specs.Listings.{HasListed}
use Rattle.trace.specs.Members.{number_member}
use Rattle.trace.specs.Telling.{IsBegun, Tells, tokens_of}
use Rattle.trace.specs.declared.draft.part.Part.{Part}
use Rattle.trace.specs.declared.draft.part.Run.{Run}
use Rattle.trace.specs.declared.draft.teller.Teller.{Teller}

flat_next : (g : ℕ → List Token) (a n : ℕ) → flat_map g (count_from a (suc n)) ≡ flat_map g (count_from a n) ++ g (a + n)
flat_next g a zero = append-nil (g a) ∙ ap g (let same : a ≡ a + 0 = omega arith in same)
flat_next g a (suc n) =
    ap (λ (ts : List Token). g a ++ ts)
    (flat_next g (suc a) n ∙ ap (λ k. flat_map g (count_from (suc a) n) ++ g k) (let same : suc a + n ≡ a + suc n = omega arith in same))
    ∙ sym (append_assoc (g a) (flat_map g (count_from (suc a) n)) (g (a + suc n)))

-- the objects of one environment more
pub flat_more : (g : ℕ → List Token) (n e : ℕ) → e ≡ n + 1 → flat_map g (count_from 1 e) ≡ flat_map g (count_from 1 n) ++ g e
flat_more g n e is =
    ap (λ k. flat_map g (count_from 1 k)) (is ∙ (let one : n + 1 ≡ suc n = omega arith in one))
    ∙ flat_next g 1 n
    ∙ ap (λ k. flat_map g (count_from 1 n) ++ g k) (let same : 1 + n ≡ n + 1 = omega arith in same ∙ sym is)

-- before the first environment
pub opens : (config : Config) (salt : ℕ) (h : List Entry) (entries : ℕ) (old new : Teller) → entries ≡ length h → IsBegun old
    → Tells (begin_object ∷ key (codes "entries") ∷ number (decimal entries) ∷ key (codes "environments") ∷ begin_array ∷ []) old new
    → HasListed config salt h 0 (record { is_cut = new.is_cut; tokens = tokens_of new.runs.items new.parts.items })
opens config salt h entries old new is begun tells whole =
    (tells.tokens whole).1
    ∙ ap₂
    (λ (rs : List Run) (ps : List Part). tokens_of rs ps ++ (begin_object ∷ key (codes "entries") ∷ number (decimal entries) ∷ key (codes "environments") ∷ begin_array ∷ [])) begun.runs begun.parts
    ∙ ap (λ (n : ℕ). begin_object ∷ (number_member (codes "entries") n ++ key (codes "environments") ∷ begin_array ∷ [])) is

-- one environment more
pub adds : (config : Config) (salt : ℕ) (h : List Entry) (n e : ℕ) (old new : Teller) → e ≡ n + 1
    → Tells (object_at config salt h e) old new
    → HasListed config salt h n (record { is_cut = old.is_cut; tokens = tokens_of old.runs.items old.parts.items })
    → HasListed config salt h e (record { is_cut = new.is_cut; tokens = tokens_of new.runs.items new.parts.items })
adds config salt h n e old new is tells has whole =
    let told = tells.tokens whole in
    told.1
    ∙ ap (λ (ts : List Token). ts ++ object_at config salt h e) (has told.0)
    ∙ ap
    (λ (ts : List Token). begin_object ∷ (number_member (codes "entries") (length h) ++ key (codes "environments") ∷ begin_array ∷ ts))
    (sym (flat_more (object_at config salt h) n e is))

-- all of them
pub listed : (config : Config) (salt : ℕ) (h : List Entry) (object : List Token) (old new : Teller)
    → Tells (end_array ∷ end_object ∷ []) old new
    → (new.is_cut ≡ false) × (object ≡ tokens_of new.runs.items new.parts.items)
    → HasListed config salt h (length (owners config)) (record { is_cut = old.is_cut; tokens = tokens_of old.runs.items old.parts.items })
    → object ≡ environments_object config salt h
listed config salt h object old new tells ended has =
    let told = tells.tokens ended.0 in
    let objects : List Token = flat_map (object_at config salt h) (environments config) in
    ended.1 ∙ told.1
    ∙ ap (λ (ts : List Token). ts ++ (end_array ∷ end_object ∷ [])) (has told.0)
    ∙ ap (λ (ts : List Token). begin_object ∷ (number_member (codes "entries") (length h) ++ key (codes "environments") ∷ begin_array ∷ ts))
    (sym (append_assoc objects (end_array ∷ []) (end_object ∷ [])))
