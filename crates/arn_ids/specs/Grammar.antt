-- What a text says about a function: its grammar, what it names at a home, and the text that names a function.
use Rattle.std.specs.Prelude.{ℕ, ◌≡◌, Bool, true, ◌&&◌, ◌||◌, ◌==◌, nat_lt, if◌then◌else◌, List, [], ◌∷◌, ◌++◌, length}
use Rattle.std.specs.Prelude.{codes, bytes_eq, Option, Some, None, Result, Ok, Err, IsOk, is_some}
use Rattle.std.specs.List.{slice_split}
use Rattle.arn_ids.specs.Words.{is_word, is_name_byte, is_name, is_account, is_region}
use Rattle.arn_ids.specs.declared.config.Home.{Home}
use Rattle.arn_ids.specs.declared.names.Named.{Named}
use Rattle.arn_ids.specs.declared.names.NameFault.{NameFault}
use Rattle.arn_ids.specs.declared.names.NameFault.TheVariants.{Malformed, ForeignAccount, UnknownQualifier, OutOfMemory}

-- The parts of a text between its colons.
abbrev pub parts : List ℕ → List (List ℕ)
parts text = slice_split (λ b. b == 58) text

-- Whether a text is `$LATEST`, the only version that exists.
abbrev pub is_latest : List ℕ → Bool
is_latest text = bytes_eq text (codes "$LATEST")

-- Whether a text is a well-formed version or alias, even if it does not exist.
abbrev pub is_qualifier : List ℕ → Bool
is_qualifier text = is_latest text || is_word is_name_byte 128 text

-- The parts of a name, as they are written.
pub record Written : Type 0 where
  pub region : Option (List ℕ)
  pub account : Option (List ℕ)
  pub name : List ℕ
  pub qualifier : Option (List ℕ)

-- The parts of `ACCOUNT:function:NAME`, with the given qualifier if there is one.
abbrev pub of_account : List ℕ → List ℕ → List ℕ → Option (List ℕ) → Option Written
of_account account kind name qualifier =
    if bytes_eq kind (codes "function")
    then Some (record { region = None; account = Some account; name = name; qualifier = qualifier }) else None

-- The parts of `arn:aws:lambda:REGION:ACCOUNT:function:NAME`, with the given qualifier if there is one.
abbrev pub of_arn : List ℕ → List ℕ → List ℕ → List ℕ → List ℕ → List ℕ → List ℕ → Option (List ℕ) → Option Written
of_arn arn partition service region account kind name qualifier =
    if bytes_eq arn (codes "arn") && bytes_eq partition (codes "aws")
    && bytes_eq service (codes "lambda") && bytes_eq kind (codes "function")
    then Some (record { region = Some region; account = Some account; name = name; qualifier = qualifier }) else None

-- The parts by their meaning; `None` if their number is not 1, 2, 3, 4, 7 or 8, or a fixed word differs.
abbrev pub shape : List (List ℕ) → Option Written
shape [] = None
shape (name ∷ []) = Some (record { region = None; account = None; name = name; qualifier = None })
shape (name ∷ qualifier ∷ []) = Some (record { region = None; account = None; name = name; qualifier = Some qualifier })
shape (account ∷ kind ∷ name ∷ []) = of_account account kind name None
shape (account ∷ kind ∷ name ∷ qualifier ∷ []) = of_account account kind name (Some qualifier)
shape (a ∷ b ∷ c ∷ d ∷ e ∷ []) = None
shape (a ∷ b ∷ c ∷ d ∷ e ∷ f ∷ []) = None
shape (a ∷ b ∷ c ∷ d ∷ e ∷ f ∷ g ∷ []) = of_arn a b c d e f g None
shape (a ∷ b ∷ c ∷ d ∷ e ∷ f ∷ g ∷ h ∷ []) = of_arn a b c d e f g (Some h)
shape (a ∷ b ∷ c ∷ d ∷ e ∷ f ∷ g ∷ h ∷ i ∷ more) = None

-- Whether a part is absent, or passes a test.
abbrev pub is_none_or : (List ℕ → Bool) → Option (List ℕ) → Bool
is_none_or p None = true
is_none_or p (Some text) = p text

-- Whether each part that is present is well formed.
abbrev pub is_well_formed : Written → Bool
is_well_formed w =
    is_name w.name && is_none_or is_qualifier w.qualifier
    && is_none_or is_account w.account && is_none_or is_region w.region

-- Whether the account and the region, as far as they are written, are those of the home.
abbrev pub is_here : Home → Written → Bool
is_here home w =
    is_none_or (λ a. bytes_eq a home.account) w.account && is_none_or (λ r. bytes_eq r home.region) w.region

-- The function that the parts name at a home, or their first fault.
abbrev pub named_by : Home → Option Written → Result Named NameFault
named_by home None = Err Malformed
named_by home (Some w) =
    if is_well_formed w then
    (if is_here home w then
    (if is_none_or is_latest w.qualifier then Ok (record { name = w.name; qualified = is_some w.qualifier })
    else Err UnknownQualifier)
    else Err ForeignAccount)
    else Err Malformed

-- The function that a text names at a home, or its first fault. A text above 170 bytes is malformed.
unfoldable pub named_in : Home → List ℕ → Result Named NameFault
named_in home text = if nat_lt 170 (length text) then Err Malformed else named_by home (shape (parts text))

-- The version that follows a qualified function's name.
abbrev pub qualifier_text : Bool → List ℕ
qualifier_text qualified = if qualified then codes ":$LATEST" else []

-- The ARN of a function of a home, qualified if it names the version.
abbrev pub arn : Home → List ℕ → Bool → List ℕ
arn home name qualified =
    codes "arn:aws:lambda:" ++ home.region ++ codes ":" ++ home.account ++ codes ":function:" ++ name
    ++ qualifier_text qualified

-- A fault that a reader returned is the one that the grammar gives. `OutOfMemory` comes only if the grammar gives a
-- function.
abbrev pub Fails : NameFault → Result Named NameFault → Type 0
Fails Malformed read = read ≡ Err Malformed
Fails ForeignAccount read = read ≡ Err ForeignAccount
Fails UnknownQualifier read = read ≡ Err UnknownQualifier
Fails OutOfMemory read = IsOk read

-- What a reader returned is what the grammar gives, unless memory ran out.
abbrev pub Gives : Result Named NameFault → Result Named NameFault → Type 0
Gives (Ok named) read = read ≡ Ok named
Gives (Err fault) read = Fails fault read
