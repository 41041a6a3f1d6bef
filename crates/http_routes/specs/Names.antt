-- The function that a request to the Lambda API is about.
use Rattle.std.specs.Prelude.{ℕ, Bool, ◌||◌, ◌==◌, if◌then◌else◌, List, Option, Some, None, Result, Ok, Err}
use Rattle.std.specs.Prelude.{is_some, count_by}
use Rattle.arn_ids.specs.Grammar.{is_latest, is_qualifier, is_none_or, named_in}
use Rattle.arn_ids.specs.Environments.{number_named}
use Rattle.arn_ids.specs.declared.config.Config.{Config}
use Rattle.arn_ids.specs.declared.names.Named.{Named}
use Rattle.arn_ids.specs.declared.names.NameFault.{NameFault}
use Rattle.arn_ids.specs.declared.names.NameFault.TheVariants as fault
use Rattle.http_routes.specs.declared.names.Target.{Target}
use Rattle.http_routes.specs.declared.names.Target.TheVariants.{Malformed, Unknown, Function}

-- The function of a number, or an unknown one.
abbrev pub numbered : Bool → Option ℕ → Target
numbered qualified None = Unknown
numbered qualified (Some f) = Function f qualified

-- The function at a version. The one known version is $LATEST.
abbrev pub at_version : Config → Option (List ℕ) → Named → Target
at_version config qualifier named =
    if is_none_or is_latest qualifier
    then numbered (named.qualified || is_some qualifier) (number_named config named.name)
    else Unknown

-- The function, given the result of reading its name. (Reading a name never gives `OutOfMemory`.)
abbrev pub by_name : Config → Option (List ℕ) → Result Named NameFault → Target
by_name config qualifier (Ok named) = at_version config qualifier named
by_name config qualifier (Err fault.Malformed) = Malformed
by_name config qualifier (Err fault.ForeignAccount) = Unknown
by_name config qualifier (Err fault.UnknownQualifier) = Unknown
by_name config qualifier (Err fault.OutOfMemory) = Unknown

-- The function that an Invoke is about, by the name in its path and the qualifier in its query (Lambda API, Invoke).
-- A malformed qualifier has the same effect as a malformed name.
unfoldable pub invoked : Config → Option (List ℕ) → Option (List ℕ) → Target
invoked config None qualifier = Malformed
invoked config (Some name) qualifier =
    if is_none_or is_qualifier qualifier then by_name config qualifier (named_in config.home name) else Malformed

-- Whether a name has a qualifier, which is after one, three or seven colons: NAME:QUALIFIER,
-- ACCOUNT:function:NAME:QUALIFIER, arn:aws:lambda:REGION:ACCOUNT:function:NAME:QUALIFIER.
abbrev pub has_qualifier : List ℕ → Bool
has_qualifier name = let colons : ℕ = count_by (λ b. b == 58) name in colons == 1 || colons == 3 || colons == 7

-- The function whose reservation a request is about. Versions have no reservations of their own: a name with a
-- qualifier is malformed (Lambda API, PutFunctionConcurrency: FunctionName).
unfoldable pub reserved : Config → Option (List ℕ) → Target
reserved config None = Malformed
reserved config (Some name) = if has_qualifier name then Malformed else by_name config None (named_in config.home name)
