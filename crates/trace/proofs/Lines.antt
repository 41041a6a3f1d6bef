-- The object that a follower drafts is that of the entry.
use Rattle.std.proofs.Common.{◌≡◌, ℕ, ◌+◌, ◌<◌, Bool, false, List, ◌∷◌, ◌++◌, length, map, reverse, get_or, refl, sym, ap, ap₂, ◌∙◌, arith}
use Rattle.std.proofs.lemmas.List.{length-reverse}
use Rattle.arn_ids.specs.declared.config.Config.{Config}
use Rattle.arn_ids.specs.Environments.{environments}
use Rattle.call_types.specs.declared.call.Entry.{Entry}
use Rattle.call_model.specs.Life.{seen}
use Rattle.call_model.proofs.Basics.{map_map, map_same}
use Rattle.json.specs.Token.{Token}
use Rattle.fleet.specs.Reaches.{before}
use Rattle.trace.specs.Object.{object_tokens, told, Turn, turn_at, turns_at}
use Rattle.trace.specs.Sites.{site, sites, turn_of}
use Rattle.trace.specs.Telling.{IsBegun, Tells, tokens_of}
use Rattle.trace.specs.declared.draft.part.Part.{Part}
use Rattle.trace.specs.declared.draft.part.Run.{Run}
use Rattle.trace.specs.declared.follower.followed.Followed.{Followed}
use Rattle.trace.specs.declared.draft.teller.Teller.{Teller}
use Rattle.fleet.proofs.Earlier.{length_before, one_later}

-- what the newest entry made of each environment
turns_here : (config : Config) (k : List Entry) (entry : Entry) → map turn_of (sites config (entry ∷ k)) ≡ turns_at config k entry
unfolding seen
turns_here config k entry =
    sym (map_map turn_of (site config (entry ∷ k)) (environments config))
    ∙ map_same (λ (e : ℕ). turn_of (site config (entry ∷ k) e)) (turn_at config k entry) (λ e. refl) (environments config)

-- the object that is told is the entry's
pub told_here : (bodies : Bool) (config : Config) (salt : ℕ) (entries : List Entry) (ticket : ℕ) (x : Entry) (ss : List Followed) (d : Entry)
    → ticket < length entries
    → x ≡ get_or entries ticket d → ss ≡ sites config (before (reverse entries) (ticket + 1))
    → told bodies config salt (reverse entries) ticket x (map turn_of ss) ≡ object_tokens bodies config salt (reverse entries) (before (reverse entries) ticket) (get_or entries ticket d)
told_here bodies config salt entries ticket x ss d there is at =
    let h : List Entry = reverse entries in
    let y : Entry = get_or entries ticket d in
    let long : length (before h ticket) ≡ ticket = length_before h ticket (omega (arith, there, length-reverse entries)) in
    ap₂ (λ (e : Entry) (xs : List Followed). told bodies config salt h ticket e (map turn_of xs)) is (at ∙ ap (sites config) (one_later entries ticket d there))
    ∙ ap₂ (λ (n : ℕ) (turns : List Turn). told bodies config salt h n y turns) (sym long) (turns_here config (before h ticket) y)

-- the object of the draft
pub drafted : (old new : Teller) (ts told object : List Token) → IsBegun old → Tells ts old new → ts ≡ object
    → (new.is_cut ≡ false) × (told ≡ tokens_of new.runs.items new.parts.items) → told ≡ object
drafted old new ts told object begun tells is ended =
    ended.1 ∙ (tells.tokens ended.0).1 ∙ ap₂ (λ (rs : List Run) (ps : List Part). tokens_of rs ps ++ ts) begun.runs begun.parts ∙ is
