use Rattle.socket_loop.proofs.socket_loop.SocketLoop.block_on.Given as goal

-- the future may be polled, and what it may still give it might have given at first
abbrev pub invariant-loop : goal.invariant-loop
invariant-loop g l =
    (goal.iterator-loop g).can_next l.iterator' × (goal.iterator-loop g).is_finite l.iterator'
    × g.F.Future.can_poll l.future × ((x : _) → g.F.Future.gives l.future x → g.F.Future.gives l.fn.future x)
