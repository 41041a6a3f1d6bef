-- How much an environment's history counts, and how many answers there are.
use Rattle.std.proofs.Common.{◌≡◌, ℕ, suc, ◌+◌, ◌*◌, ◌<◌, ◌≤◌, ◌^◌, List, [], ◌∷◌, length, get_or, All, ap, ◌∙◌, arith}
use Rattle.std.proofs.lemmas.List.Elements.{All-map}
use Rattle.arn_ids.specs.declared.config.Config.{Config}
use Rattle.arn_ids.specs.Environments.{environments}
use Rattle.call_types.specs.declared.answer.Answer.{Answer}
use Rattle.call_types.specs.declared.call.Entry.{Entry}
use Rattle.environment_step.specs.After.{put}
use Rattle.call_model.specs.Next.{IsLegal}
use Rattle.fleet.proofs.Entered.{few_site}
use Rattle.extension_set.proofs.Lengths.{put_length}
use Rattle.fleet.specs.declared.site.Site.{Site}
use Rattle.fleet.specs.Sites.{IsFew}
use Rattle.account_book.specs.Fleets.{put_all, merged}
use Rattle.fleet.specs.Sites.{site, sites}

-- the counts of events and registrations leave room for more
pub few_sites : (config : Config) (h : List Entry) → IsLegal config h → length h < 2 ^ 32 → All IsFew (sites config h)
few_sites config h l short =
    All-map IsFew (site config h) (environments config) (λ i d lt. few_site config h (get_or (environments config) i d) l (omega (arith, short)))

-- how many answers there are
pub put_all_length : (moves answers : List (ℕ × Answer)) → length (put_all moves answers) ≡ length moves + length answers
put_all_length [] answers = omega arith
put_all_length (a ∷ rest) answers = put_all_length rest (put a answers) ∙ ap (λ n. length rest + n) (put_length a answers) ∙ omega arith

pub merged_few : (moves : Site → List (ℕ × Answer)) (each : List Site) (answers : List (ℕ × Answer))
    → All (λ s. length (moves s) ≤ 13) each → length (merged moves each answers) ≤ 13 * length each + length answers
merged_few moves [] answers all = omega arith
merged_few moves (s ∷ ss) answers all =
    omega
    (arith, merged_few moves ss (put_all (moves s) answers) (λ i d lt. all (suc i) d (omega (arith, lt))), put_all_length (moves s) answers, all 0 s (omega arith))
