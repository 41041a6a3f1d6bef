-- Whether an extension may be registered, and what is registered.
use Rattle.std.specs.Prelude.{ℕ, Bool, false, not, ◌&&◌, if◌then◌else◌, nat_le, List, length, Option, Some, None}
use Rattle.std.specs.Prelude.{Result, Ok, Err, bytes_eq}
use Rattle.std.specs.List.{list_any}
use Rattle.arn_ids.specs.Limits.{most_extensions}
use Rattle.call_model.specs.Generation.{Member, Extension, hears_end}
use Rattle.extension_set.specs.declared.register_fault.RegisterFault.{RegisterFault}
use Rattle.extension_set.specs.declared.register_fault.RegisterFault.TheVariants.{NameInUse, TooMany}

-- Whether an extension with this name may be registered: first a name in use is refused, then an eleventh extension
-- (Extensions API: Register).
abbrev pub admits : List Member → List ℕ → Result Unit RegisterFault
admits xs name =
    if list_any (λ x. bytes_eq name x.extension.name) xs then Err NameInUse
    else if nat_le most_extensions (length xs) then Err TooMany
    else Ok tt

-- The member for an extension that was just registered.
abbrev pub registered : Extension → Member
registered x = record { extension = x; next = None; told = false; again = false; exited = false }

-- Whether an extension that asks for Next in a Closing is notified of the end of the environment: it registered for
-- SHUTDOWN, has not exited, and was not notified yet (Extensions API: Shutdown event).
abbrev pub owes_end : Option Member → Bool
owes_end None = false
owes_end (Some x) = hears_end x && not x.told
