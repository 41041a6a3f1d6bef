-- An environment that a call newly gives an invocation was given one by an Invoke.
use Rattle.std.proofs.Common.{◌≡◌, ℕ, ◌+◌, Bool, true, false, Option, Some, None, is_some, sym, refl, ap, ◌∙◌, ◌⊎◌, inl, inr, true≢false, if◌then◌else◌}
use Rattle.call_types.specs.declared.call.Call.{Call}
use Rattle.environment_step.specs.After.{Fixed, Step, stand_after, limit_at, closing_ends, expires_now, first_stand}
use Rattle.environment_step.specs.After.{cell_at, finished, turned, restarted, settled_stand}
use Rattle.call_model.specs.Generation.{ready}
use Rattle.call_model.specs.Laws.{is_taken}
use Rattle.call_model.specs.Stand.{Stand, at_hand}
use Rattle.call_model.specs.Table.{closes, kept}
use Rattle.call_types.specs.Calls.{is_invoke}
use Rattle.call_model.proofs.AtHand.{from_after, from_kept, from_closing}

at_hand_after : (fixed : Fixed) (step : Step) (s : Stand) (call : Call) (p : ℕ)
    → at_hand (stand_after fixed step s call).phase ≡ Some p → (is_invoke call ≡ true) ⊎ (at_hand s.phase ≡ Some p)
unfolding stand_after finished turned first_stand
at_hand_after fixed step s call p q =
    elim
    (from_kept step.now (limit_at fixed step) step.ticket s call p (from_closing step.now (closes s call) (kept step.now (limit_at fixed step) step.ticket s call) p (of_cell (closing_ends (expires_now s call) (first_stand fixed step s call)) q)).1)
    [ inl new ↦ inl new.1 | inr old ↦ inr old ]
  where
    of_cell : (b : Bool)
        → at_hand (if b then restarted step.now (first_stand fixed step s call) else settled_stand fixed step.now s.phase (first_stand fixed step s call)).phase ≡ Some p
        → at_hand (cell_at fixed step s call) ≡ Some p
    of_cell true k = from_after true (first_stand fixed step s call).stopped true true step.now 0 (cell_at fixed step s call) p k
    of_cell false k =
        from_after false true
        (ready (first_stand fixed step s call).runtime (first_stand fixed step s call).members fixed.expected)
        (is_some (first_stand fixed step s call).request) step.now (step.now + fixed.timeout)
        (cell_at fixed step s call) p k

pub newly_taken : (fixed : Fixed) (step : Step) (s : Stand) (call : Call) → is_taken s.phase ≡ false
    → is_taken (stand_after fixed step s call).phase ≡ true → is_invoke call ≡ true
newly_taken fixed step s call was now = go (at_hand (stand_after fixed step s call).phase) refl now
  where
    go : (o : Option ℕ) → at_hand (stand_after fixed step s call).phase ≡ o → is_some o ≡ true → is_invoke call ≡ true
    go None e k = absurd (true≢false (sym k))
    go (Some p) e k = elim (at_hand_after fixed step s call p e) [ inl invoke ↦ invoke | inr old ↦ absurd (true≢false (sym (ap is_some old) ∙ was)) ]
