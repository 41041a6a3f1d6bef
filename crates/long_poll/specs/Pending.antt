-- What a pending poll leaves to come.

-- Whatever a future may give in its new state, it could already give in its old one.
abbrev pub KeepsTo : {F O : Type 0} → (F → O → Type 0) → F → F → Type 0
KeepsTo {F} {O} gives old new = (x : O) → gives new x → gives old x
