-- Worked histories of extensions. Each line of an outcome is (entry, ticket, answer).
use Rattle.std.specs.Prelude.{◌≡◌, ℕ, true, false, [], ◌∷◌, None, refl}
use Rattle.call_types.specs.declared.call.Call.{Call}
use Rattle.call_types.specs.declared.call.Call.TheVariants.{RuntimeNext, InitFailure, ExtNext, ExtExitFailure}
use Rattle.call_types.specs.declared.answer.Answer.TheVariants.{Delivered, Told, Ending, Registered, Accepted, Output}
use Rattle.call_types.specs.declared.answer.Answer.TheVariants.{Error, Throttled, Refused}
use Rattle.call_types.specs.declared.answer.Rejection.TheVariants.{State, Unknown, Container, NameInUse, TooMany}
use Rattle.call_types.specs.declared.answer.Throttle.TheVariants.{Function as ByFunction}
use Rattle.call_types.specs.declared.answer.Reason.TheVariants.{Failure as Failed}
use Rattle.arn_ids.specs.declared.config.Config.{Config}
use Rattle.call_model.specs.Sample.{name_a, name_b, function, account, one, reserved_one, invoke, registers, response}
use Rattle.call_model.specs.Sample.{outcome}

-- An account with one function, which expects the extension a.
abbrev pub expecting : Config
expecting = account 1000 100 (function 3 None (name_a ∷ []) 1 ∷ [])

-- A registration, at moment 0, under the name of the one byte n.
abbrev pub joins : ℕ → ℕ × Call
joins n = (0, registers 1 (n ∷ []) true false)

two_extensions : outcome one
    ((0, registers 1 name_a true false) ∷ (0, registers 1 name_b false true) ∷ (1, ExtNext 1 1) ∷
    (2, ExtNext 1 2) ∷ (3, RuntimeNext 1) ∷ (1000, invoke 1) ∷ (1100, response 1 1) ∷ (1200, ExtNext 1 1) ∷
    (1300, RuntimeNext 1) ∷ (1400, invoke 1) ∷ [])
    ≡ ((0, 0, Registered 1) ∷ (1, 1, Registered 2) ∷ (5, 2, Told 5 4000 1) ∷ (5, 4, Delivered 5 4000) ∷
    (6, 5, Output 6) ∷ (6, 6, Accepted) ∷ (9, 7, Told 9 4400 2) ∷ (9, 8, Delivered 9 4400) ∷ [])
unfolding outcome
two_extensions = refl

charged_until_extensions_ask_again : outcome reserved_one
    ((0, registers 1 name_a true false) ∷ (1, ExtNext 1 1) ∷ (2, RuntimeNext 1) ∷ (3, RuntimeNext 2) ∷
    (1000, invoke 1) ∷ (1100, response 1 1) ∷ (1200, RuntimeNext 1) ∷ (1300, invoke 1) ∷
    (1400, ExtNext 1 1) ∷ (1500, invoke 1) ∷ [])
    ≡ ((0, 0, Registered 1) ∷ (4, 1, Told 4 4000 1) ∷ (4, 2, Delivered 4 4000) ∷ (5, 4, Output 5) ∷
    (5, 5, Accepted) ∷ (7, 7, Throttled ByFunction) ∷ (9, 6, Delivered 9 4500) ∷ (9, 8, Told 9 4500 2) ∷ [])
unfolding outcome
charged_until_extensions_ask_again = refl

ten_extensions : outcome one
    (joins 1 ∷ joins 2 ∷ joins 3 ∷ joins 4 ∷ joins 5 ∷ joins 6 ∷ joins 7 ∷ joins 8 ∷ joins 9 ∷ joins 10
    ∷ joins 11 ∷ joins 1 ∷ [])
    ≡ ((0, 0, Registered 1) ∷ (1, 1, Registered 2) ∷ (2, 2, Registered 3) ∷ (3, 3, Registered 4) ∷
    (4, 4, Registered 5) ∷ (5, 5, Registered 6) ∷ (6, 6, Registered 7) ∷ (7, 7, Registered 8) ∷
    (8, 8, Registered 9) ∷ (9, 9, Registered 10) ∷ (10, 10, Refused TooMany) ∷ (11, 11, Refused NameInUse) ∷
    [])
unfolding outcome
ten_extensions = refl

-- Ten extensions may register in each generation: after a failed Init, another one may.
ten_extensions_in_each_generation : outcome one
    (joins 1 ∷ joins 2 ∷ joins 3 ∷ joins 4 ∷ joins 5 ∷ joins 6 ∷ joins 7 ∷ joins 8 ∷ joins 9 ∷ joins 10
    ∷ (0, InitFailure 1 []) ∷ joins 11 ∷ [])
    ≡ ((0, 0, Registered 1) ∷ (1, 1, Registered 2) ∷ (2, 2, Registered 3) ∷ (3, 3, Registered 4) ∷
    (4, 4, Registered 5) ∷ (5, 5, Registered 6) ∷ (6, 6, Registered 7) ∷ (7, 7, Registered 8) ∷
    (8, 8, Registered 9) ∷ (9, 9, Registered 10) ∷ (10, 10, Accepted) ∷ (11, 11, Registered 11) ∷ [])
unfolding outcome
ten_extensions_in_each_generation = refl

register_refusals : outcome one
    ((0, registers 1 name_a true false) ∷ (0, registers 1 name_a false true) ∷ (1, ExtNext 1 1) ∷
    (2, RuntimeNext 1) ∷ (3, registers 1 name_b true false) ∷ [])
    ≡ ((0, 0, Registered 1) ∷ (1, 1, Refused NameInUse) ∷ (4, 4, Refused State) ∷ [])
unfolding outcome
register_refusals = refl

init_failure_and_shutdown : outcome one
    ((0, registers 1 name_a true true) ∷ (10, ExtNext 1 1) ∷ (20, invoke 1) ∷ (30, InitFailure 1 []) ∷
    (40, invoke 1) ∷ (50, ExtNext 1 1) ∷ (60, ExtNext 1 1) ∷ (70, RuntimeNext 1) ∷ (80, response 1 2) ∷ [])
    ≡ ((0, 0, Registered 1) ∷ (3, 1, Ending Failed 2030 1) ∷ (3, 2, Error 3) ∷ (3, 3, Accepted) ∷
    (5, 5, Refused Container) ∷ (6, 6, Refused Unknown) ∷ (7, 7, Delivered 4 3070) ∷ (8, 4, Output 8) ∷
    (8, 8, Accepted) ∷ [])
unfolding outcome
init_failure_and_shutdown = refl

expected_extension : outcome expecting
    ((0, RuntimeNext 1) ∷ (1, registers 1 name_a true false) ∷ (2, invoke 1) ∷ (3, ExtNext 1 1) ∷ [])
    ≡ ((1, 1, Registered 1) ∷ (3, 0, Delivered 2 3003) ∷ (3, 3, Told 2 3003 1) ∷ [])
unfolding outcome
expected_extension = refl

-- An expected extension is missing until it registers under its own name: another extension does not replace it.
expected_extension_by_its_name : outcome expecting
    ((0, RuntimeNext 1) ∷ (1, registers 1 name_b true false) ∷ (2, ExtNext 1 1) ∷ (3, invoke 1) ∷
    (4, registers 1 name_a true false) ∷ (5, ExtNext 1 2) ∷ [])
    ≡ ((1, 1, Registered 1) ∷ (4, 4, Registered 2) ∷ (5, 0, Delivered 3 3005) ∷ (5, 2, Told 3 3005 1) ∷
    (5, 5, Told 3 3005 2) ∷ [])
unfolding outcome
expected_extension_by_its_name = refl

extension_exit : outcome one
    ((0, registers 1 name_a true false) ∷ (0, ExtNext 1 1) ∷ (0, RuntimeNext 1) ∷ (10, invoke 1) ∷
    (20, ExtExitFailure 1 1 []) ∷ (30, response 1 1) ∷ (40, ExtNext 1 1) ∷ [])
    ≡ ((0, 0, Registered 1) ∷ (3, 1, Told 3 3010 1) ∷ (3, 2, Delivered 3 3010) ∷ (4, 3, Error 4) ∷
    (4, 4, Accepted) ∷ (5, 5, Refused State) ∷ (6, 6, Refused Unknown) ∷ [])
unfolding outcome
extension_exit = refl
