-- Which texts are settings, and which settings they are. Source: this profile, over TOML 1.1 as
-- `toml` defines it. The code asks for the fields one by one and goes through the keys, the rules
-- and the callers once; here a field is what its value may be.
use Rattle.std.specs.Prelude.{◌≡◌, ℕ, suc, ◌+◌, ◌*◌, ◌-◌, max, ℤ, pos, negsuc, Bool, true, not, ◌&&◌, ◌||◌, if◌then◌else◌, List, [], ◌∷◌, length, Option, Some, None, Result, Ok, Err, ⊤, nat_eq, nat_le, bytes_eq, codes}
use Rattle.std.specs.List.{list_all}
use Rattle.std.specs.Ordering.{nat_cmp, is_lt}
use Rattle.std.specs.Cmp.Lexicographic.{slice_cmp}
use Rattle.toml.specs.Data.{Data, string, integer, array, table, Items, no_items, item, Members, no_members, member, get_member}
use Rattle.toml.specs.Parse.{parse_document}
use Rattle.st_tree.specs.declared.settings.Settings.{Settings}
use Rattle.st_tree.specs.declared.settings.CallerKey.{CallerKey}
use Rattle.project_keeper.specs.Names.{is_within, is_letter_or_digit, is_name, is_rule_number, is_utf8}
use Rattle.station_settings.specs.Fields as field
use Rattle.station_settings.specs.declared.field.Field.{Field}
use Rattle.station_settings.specs.declared.field.SettingsRefusal.{SettingsRefusal}
use Rattle.station_settings.specs.declared.field.SettingsRefusal.TheVariants.{Bad, NoMemory}
use Rattle.station_settings.specs.declared.field.Field.TheVariants.{Toml, NameMin, NameMax, MaxNesting, MaxStatements, GlobalPrefix, Disabled, Caller, Unknown}

-- ---- numbers

-- a whole number from `low` to `high`, and `default` where the field is missing
abbrev pub within : ℕ → ℕ → ℤ → Option ℕ
within low high (pos n) = if is_within low high n then Some n else None
within low high (negsuc n) = None

abbrev pub number : ℕ → ℕ → ℕ → Option Data → Option ℕ
number low high default None = Some default
number low high default (Some (integer z)) = within low high z
number low high default (Some _) = None

abbrev pub name_min : Members → Option ℕ
name_min document = number 1 128 1 (get_member field.name_min document)

-- no less than `name_min`, which is also the default where 32 is less
abbrev pub name_max : ℕ → Members → Option ℕ
name_max low document = number low 128 (max 32 low) (get_member field.name_max document)

abbrev pub max_nesting : Members → Option ℕ
max_nesting document = number 1 64 6 (get_member field.max_nesting document)

abbrev pub max_statements : Members → Option ℕ
max_statements document = number 1 100000 500 (get_member field.max_statements document)

-- ---- the prefix of global names

-- a letter, a digit or `_`
abbrev pub is_prefix_byte : ℕ → Bool
is_prefix_byte byte = is_letter_or_digit byte || nat_eq byte 95

-- 0 to 16 of them
abbrev pub is_prefix : List ℕ → Bool
is_prefix bytes = nat_le (length bytes) 16 && list_all is_prefix_byte bytes

abbrev pub prefix_of : List ℕ → Option (List ℕ)
prefix_of bytes = if is_prefix bytes then Some bytes else None

-- the empty prefix where the field is missing
abbrev pub prefix : Option Data → Option (List ℕ)
prefix None = Some []
prefix (Some (string bytes)) = prefix_of bytes
prefix (Some _) = None

abbrev pub global_prefix : Members → Option (List ℕ)
global_prefix document = prefix (get_member field.global_prefix document)

-- ---- lists

abbrev pub before : {A : Type 0} → Option A → Option (List A) → Option (List A)
before (Some first) (Some rest) = Some (first ∷ rest)
before _ _ = None

-- what each item gives, where each gives something
abbrev pub each : {A : Type 0} → (Data → Option A) → Items → Option (List A)
each one no_items = Some []
each one (item first rest) = before (one first) (each one rest)

abbrev pub count : Items → ℕ
count no_items = 0
count (item first rest) = suc (count rest)

-- ---- disabled rules

-- the number of the rule with that code, S01 to S24
abbrev pub number_of : ℕ → ℕ → Option ℕ
number_of tens ones = if is_rule_number tens ones then Some (10 * (tens - 48) + (ones - 48)) else None

abbrev pub rule_number : List ℕ → Option ℕ
rule_number (letter ∷ tens ∷ ones ∷ []) = if nat_eq letter 83 then number_of tens ones else None
rule_number _ = None

abbrev pub rule : Data → Option ℕ
rule (string code) = rule_number code
rule _ = None

-- the rule of number 7 where the field is missing
abbrev pub rules : Option Data → Option (List ℕ)
rules None = Some (7 ∷ [])
rules (Some (array listed)) = each rule listed
rules (Some _) = None

abbrev pub disabled : Members → Option (List ℕ)
disabled document = rules (get_member field.disabled document)

-- ---- callers

-- 16 to 128 bytes of ASCII 33 to 126
abbrev pub is_key : List ℕ → Bool
is_key bytes = is_within 16 128 (length bytes) && list_all (is_within 33 126) bytes

abbrev pub lawful_caller : List ℕ → List ℕ → Option CallerKey
lawful_caller name key = if is_name name && is_key key then Some (record { name = name; key = key }) else None

abbrev pub caller_of : Option Data → Option Data → Option CallerKey
caller_of (Some (string name)) (Some (string key)) = lawful_caller name key
caller_of _ _ = None

abbrev pub members : Members → ℕ
members no_members = 0
members (member key value rest) = suc (members rest)

-- a table of two members, a name and a key
abbrev pub caller_in : Members → Option CallerKey
caller_in entries =
    if nat_eq (members entries) 2
    then caller_of (get_member (codes "name") entries) (get_member (codes "key") entries)
    else None

abbrev pub caller : Data → Option CallerKey
caller (table entries) = caller_in entries
caller _ = None

-- neither the name nor the key of one is that of the other
abbrev pub differ : CallerKey → CallerKey → Bool
differ one other = not (bytes_eq one.name other.name) && not (bytes_eq one.key other.key)

abbrev pub all_differ : List CallerKey → Bool
all_differ [] = true
all_differ (first ∷ rest) = list_all (differ first) rest && all_differ rest

abbrev pub if_differ : Option (List CallerKey) → Option (List CallerKey)
if_differ (Some found) = if all_differ found then Some found else None
if_differ None = None

-- at most 64 callers, who differ
abbrev pub callers_in : Items → Option (List CallerKey)
callers_in tables = if nat_le (count tables) 64 then if_differ (each caller tables) else None

-- no callers where the field is missing
abbrev pub callers_of : Option Data → Option (List CallerKey)
callers_of None = Some []
callers_of (Some (array tables)) = callers_in tables
callers_of (Some _) = None

abbrev pub callers : Members → Option (List CallerKey)
callers document = callers_of (get_member field.caller document)

-- ---- other keys

-- the lesser of the two keys by their bytes, where there is another
abbrev pub lesser : List ℕ → Option (List ℕ) → List ℕ
lesser key None = key
lesser key (Some other) = if is_lt (slice_cmp nat_cmp other key) then other else key

-- the least key that is no field, if there is one
abbrev pub least_unknown : Members → Option (List ℕ)
least_unknown no_members = None
least_unknown (member key value rest) =
    if field.is_field key then least_unknown rest else Some (lesser key (least_unknown rest))

-- ---- settings

-- The field is bad where it has no value; else it goes on with the value.
abbrev pub need : {A : Type 0} → Field → Option A → (A → Result Settings Field) → Result Settings Field
need name None more = Err name
need name (Some value) more = more value

abbrev pub without : Option (List ℕ) → Settings → Result Settings Field
without None settings = Ok settings
without (Some key) settings = Err (Unknown key)

-- the settings of a document, or the first bad field in the order of the fields, and then the least
-- key that is no field
abbrev pub settings_of : Members → Result Settings Field
settings_of document =
    need NameMin (name_min document) λ low.
    need NameMax (name_max low document) λ high.
    need MaxNesting (max_nesting document) λ nesting.
    need MaxStatements (max_statements document) λ statements.
    need GlobalPrefix (global_prefix document) λ prefix.
    need Disabled (disabled document) λ rules.
    need Caller (callers document) λ callers.
    without (least_unknown document)
    (record {
      name_min = low;
      name_max = high;
      max_nesting = nesting;
      max_statements = statements;
      global_prefix = prefix;
      disabled = rules;
      callers = callers;
    })

-- the document of a text, which is UTF-8 and TOML
abbrev pub document : List ℕ → Option Members
document text = if is_utf8 text then parse_document text else None

abbrev pub settings_in : Option Members → Result Settings Field
settings_in None = Err Toml
settings_in (Some document) = settings_of document

-- the settings of a text, or why it has none
abbrev pub settings : List ℕ → Result Settings Field
settings text = settings_in (document text)

-- It is what the text says, or there was no memory.
abbrev pub IsReading : Result Settings Field → Result Settings SettingsRefusal → Type 0
IsReading said (Ok settings) = said ≡ Ok settings
IsReading said (Err (Bad field)) = said ≡ Err field
IsReading said (Err NoMemory) = ⊤
