-- Settings of a document are lawful.
use Rattle.std.proofs.Common.{◌≡◌, ℕ, ◌≤◌, Bool, true, false, ◌&&◌, cond, max, List, [], ◌∷◌, length, ℤ, pos, negsuc, Option, Some, None, Result, Ok, Err, nat_eq, nat_le, codes, refl, ap, subst, suc, arith}
use Rattle.std.specs.Prelude.{is_ok, IfOk}
use Rattle.std.specs.Result.{result_ok}
use Rattle.std.specs.List.{list_all}
use Rattle.std.proofs.lemmas.Bool.{and_parts, false≢true}
use Rattle.std.proofs.lemmas.Bool.Decides.{nat_tests}
use Rattle.std.proofs.lemmas.Option.{same_Some, none-some, cond_some}
use Rattle.st_tree.specs.declared.settings.Settings.{Settings}
use Rattle.st_tree.specs.declared.settings.CallerKey.{CallerKey}
use Rattle.toml.specs.Data.{Data, string, integer, float, boolean, datetime, array, table, Items, no_items, item, Members, get_member}
use Rattle.project_keeper.specs.Names.{is_within, is_name, is_digit, is_rule_number}
use Rattle.station_settings.specs.declared.field.Field.{Field}
use Rattle.station_settings.specs.declared.field.SettingsRefusal.{SettingsRefusal}
use Rattle.station_settings.specs.declared.field.SettingsRefusal.TheVariants.{Bad, NoMemory}
use Rattle.station_settings.specs.Fields as field
use Rattle.station_settings.specs.Schema as schema
use Rattle.station_settings.specs.Lawful.{IsLawful, is_lawful_caller}

-- ---- what an answer tells of what it was made from

need_ok : {A : Type 0} (name : Field) (value : Option A) (more : A → Result Settings Field) (settings : Settings)
    → schema.need name value more ≡ Ok settings → (found : A) × (value ≡ Some found) × (more found ≡ Ok settings)
need_ok name None more settings e = absurd (false≢true (ap is_ok e))
need_ok name (Some found) more settings e = (found, refl, e)

without_ok : (key : Option (List ℕ)) (made settings : Settings) → schema.without key made ≡ Ok settings → made ≡ settings
without_ok None made settings e = same_Some made settings (ap result_ok e)
without_ok (Some key) made settings e = absurd (false≢true (ap is_ok e))

before_some : {A : Type 0} (first : Option A) (rest : Option (List A)) (all : List A) → schema.before first rest ≡ Some all
    → (x : A) × (xs : List A) × (first ≡ Some x) × (rest ≡ Some xs) × (x ∷ xs ≡ all)
before_some None rest all e = absurd (none-some all e)
before_some (Some x) None all e = absurd (none-some all e)
before_some (Some x) (Some xs) all e = (x, xs, refl, refl, same_Some (x ∷ xs) all e)

-- ---- numbers

within_lawful : (low high : ℕ) (z : ℤ) (found : ℕ) → schema.within low high z ≡ Some found → is_within low high found ≡ true
within_lawful low high (pos n) found e =
    let (inside, same) = cond_some (is_within low high n) n found e in
    subst (λ n. is_within low high n ≡ true) same inside
within_lawful low high (negsuc n) found e = absurd (none-some found e)

number_lawful : (low high default : ℕ) (value : Option Data) (found : ℕ) → is_within low high default ≡ true
    → schema.number low high default value ≡ Some found → is_within low high found ≡ true
number_lawful low high default None found inside e = subst (λ n. is_within low high n ≡ true) (same_Some default found e) inside
number_lawful low high default (Some (integer z)) found inside e = within_lawful low high z found e
number_lawful low high default (Some (string x)) found inside e = absurd (none-some found e)
number_lawful low high default (Some (float x)) found inside e = absurd (none-some found e)
number_lawful low high default (Some (boolean x)) found inside e = absurd (none-some found e)
number_lawful low high default (Some (datetime x)) found inside e = absurd (none-some found e)
number_lawful low high default (Some (array x)) found inside e = absurd (none-some found e)
number_lawful low high default (Some (table x)) found inside e = absurd (none-some found e)

-- The default of `name_max` lies within its bounds.
default_inside : (low : ℕ) → is_within 1 128 low ≡ true → is_within low 128 (max 32 low) ≡ true
default_inside low inside = grind (arith, nat_tests, inside)

-- ---- the prefix

prefix_lawful : (value : Option Data) (found : List ℕ) → schema.prefix value ≡ Some found → schema.is_prefix found ≡ true
prefix_lawful None found e = rw (← same_Some [] found e) refl
prefix_lawful (Some (string bytes)) found e =
    let (inside, same) = cond_some (schema.is_prefix bytes) bytes found e in
    subst (λ bytes. schema.is_prefix bytes ≡ true) same inside
prefix_lawful (Some (integer x)) found e = absurd (none-some found e)
prefix_lawful (Some (float x)) found e = absurd (none-some found e)
prefix_lawful (Some (boolean x)) found e = absurd (none-some found e)
prefix_lawful (Some (datetime x)) found e = absurd (none-some found e)
prefix_lawful (Some (array x)) found e = absurd (none-some found e)
prefix_lawful (Some (table x)) found e = absurd (none-some found e)

-- ---- lists

both : (a b : Bool) → a ≡ true → b ≡ true → (a && b) ≡ true
both a b p q = rw (p, q) refl

each_lawful : {A : Type 0} (test : A → Bool) (one : Data → Option A) → ((value : Data) (found : A) → one value ≡ Some found → test found ≡ true)
    → (items : Items) (all : List A) → schema.each one items ≡ Some all → list_all test all ≡ true
each_lawful test one gives no_items all e = rw (← same_Some [] all e) refl
each_lawful test one gives (item first rest) all e =
    let (x, xs, here, there, same) = before_some (one first) (schema.each one rest) all e in
    subst (λ all. list_all test all ≡ true) same (both (test x) (list_all test xs) (gives first x here) (each_lawful test one gives rest xs there))

each_count : {A : Type 0} (one : Data → Option A) (items : Items) (all : List A) → schema.each one items ≡ Some all → length all ≡ schema.count items
each_count one no_items all e = rw (← same_Some [] all e) refl
each_count one (item first rest) all e =
    let (x, xs, here, there, same) = before_some (one first) (schema.each one rest) all e in
    subst (λ all. length all ≡ suc (schema.count rest)) same (ap suc (each_count one rest xs there))

-- ---- rules

number_of_lawful : (tens ones found : ℕ) → schema.number_of tens ones ≡ Some found → is_within 1 24 found ≡ true
number_of_lawful tens ones found e =
    let (good, same) = cond_some (is_rule_number tens ones) _ found e in
    let inside = (and_parts (is_digit ones) _ (and_parts (is_digit tens) _ good).1).1 in
    subst (λ n. is_within 1 24 n ≡ true) same inside

cond_lawful : (b : Bool) (tens ones found : ℕ) → cond b (schema.number_of tens ones) None ≡ Some found → is_within 1 24 found ≡ true
cond_lawful true tens ones found e = number_of_lawful tens ones found e
cond_lawful false tens ones found e = absurd (none-some found e)

rule_number_lawful : (code : List ℕ) (found : ℕ) → schema.rule_number code ≡ Some found → is_within 1 24 found ≡ true
rule_number_lawful [] found e = absurd (none-some found e)
rule_number_lawful (a ∷ []) found e = absurd (none-some found e)
rule_number_lawful (a ∷ b ∷ []) found e = absurd (none-some found e)
rule_number_lawful (a ∷ b ∷ c ∷ []) found e = cond_lawful _ b c found e
rule_number_lawful (a ∷ b ∷ c ∷ d ∷ more) found e = absurd (none-some found e)

rule_lawful : (value : Data) (found : ℕ) → schema.rule value ≡ Some found → is_within 1 24 found ≡ true
rule_lawful (string code) found e = rule_number_lawful code found e
rule_lawful (integer x) found e = absurd (none-some found e)
rule_lawful (float x) found e = absurd (none-some found e)
rule_lawful (boolean x) found e = absurd (none-some found e)
rule_lawful (datetime x) found e = absurd (none-some found e)
rule_lawful (array x) found e = absurd (none-some found e)
rule_lawful (table x) found e = absurd (none-some found e)

rules_lawful : (value : Option Data) (found : List ℕ) → schema.rules value ≡ Some found → list_all (is_within 1 24) found ≡ true
rules_lawful None found e = rw (← same_Some (7 ∷ []) found e) refl
rules_lawful (Some (array listed)) found e = each_lawful (is_within 1 24) schema.rule rule_lawful listed found e
rules_lawful (Some (string x)) found e = absurd (none-some found e)
rules_lawful (Some (integer x)) found e = absurd (none-some found e)
rules_lawful (Some (float x)) found e = absurd (none-some found e)
rules_lawful (Some (boolean x)) found e = absurd (none-some found e)
rules_lawful (Some (datetime x)) found e = absurd (none-some found e)
rules_lawful (Some (table x)) found e = absurd (none-some found e)

-- ---- callers

caller_of_lawful : (name key : Option Data) (found : CallerKey) → schema.caller_of name key ≡ Some found → is_lawful_caller found ≡ true
caller_of_lawful (Some (string name)) (Some (string key)) found e =
    let (good, same) = cond_some (is_name name && schema.is_key key) _ found e in
    subst (λ caller. is_lawful_caller caller ≡ true) same good
caller_of_lawful None key found e = absurd (none-some found e)
caller_of_lawful (Some (string name)) None found e = absurd (none-some found e)
caller_of_lawful (Some (string name)) (Some (integer x)) found e = absurd (none-some found e)
caller_of_lawful (Some (string name)) (Some (float x)) found e = absurd (none-some found e)
caller_of_lawful (Some (string name)) (Some (boolean x)) found e = absurd (none-some found e)
caller_of_lawful (Some (string name)) (Some (datetime x)) found e = absurd (none-some found e)
caller_of_lawful (Some (string name)) (Some (array x)) found e = absurd (none-some found e)
caller_of_lawful (Some (string name)) (Some (table x)) found e = absurd (none-some found e)
caller_of_lawful (Some (integer x)) key found e = absurd (none-some found e)
caller_of_lawful (Some (float x)) key found e = absurd (none-some found e)
caller_of_lawful (Some (boolean x)) key found e = absurd (none-some found e)
caller_of_lawful (Some (datetime x)) key found e = absurd (none-some found e)
caller_of_lawful (Some (array x)) key found e = absurd (none-some found e)
caller_of_lawful (Some (table x)) key found e = absurd (none-some found e)

sized_lawful : (b : Bool) (name key : Option Data) (found : CallerKey) → cond b (schema.caller_of name key) None ≡ Some found → is_lawful_caller found ≡ true
sized_lawful true name key found e = caller_of_lawful name key found e
sized_lawful false name key found e = absurd (none-some found e)

caller_lawful : (value : Data) (found : CallerKey) → schema.caller value ≡ Some found → is_lawful_caller found ≡ true
caller_lawful (table entries) found e =
    sized_lawful (nat_eq (schema.members entries) 2) (get_member (codes "name") entries) (get_member (codes "key") entries) found e
caller_lawful (string x) found e = absurd (none-some found e)
caller_lawful (integer x) found e = absurd (none-some found e)
caller_lawful (float x) found e = absurd (none-some found e)
caller_lawful (boolean x) found e = absurd (none-some found e)
caller_lawful (datetime x) found e = absurd (none-some found e)
caller_lawful (array x) found e = absurd (none-some found e)

-- what is known of callers
abbrev AreLawful : List CallerKey → Type 0
AreLawful callers = (length callers ≤ 64) × (list_all is_lawful_caller callers ≡ true) × (schema.all_differ callers ≡ true)

if_differ_some : (callers : Option (List CallerKey)) (found : List CallerKey) → schema.if_differ callers ≡ Some found
    → (callers ≡ Some found) × (schema.all_differ found ≡ true)
if_differ_some None found e = absurd (none-some found e)
if_differ_some (Some callers) found e =
    let (good, same) = cond_some (schema.all_differ callers) callers found e in
    (ap Some same, subst (λ callers. schema.all_differ callers ≡ true) same good)

few_lawful : (tables : Items) (found : List CallerKey) → schema.count tables ≤ 64 → schema.if_differ (schema.each schema.caller tables) ≡ Some found → AreLawful found
few_lawful tables found few e =
    let (all, differ) = if_differ_some (schema.each schema.caller tables) found e in
    (rw (← each_count schema.caller tables found all) at few, each_lawful is_lawful_caller schema.caller caller_lawful tables found all, differ)

counted_lawful : (b : Bool) (tables : Items) (found : List CallerKey) → (b ≡ true → schema.count tables ≤ 64)
    → cond b (schema.if_differ (schema.each schema.caller tables)) None ≡ Some found → AreLawful found
counted_lawful true tables found few e = few_lawful tables found (few refl) e
counted_lawful false tables found few e = absurd (none-some found e)

few : (n : ℕ) → nat_le n 64 ≡ true → n ≤ 64
few n test = grind (arith, nat_tests, test)

callers_lawful : (value : Option Data) (found : List CallerKey) → schema.callers_of value ≡ Some found → AreLawful found
callers_lawful None found e = subst AreLawful (same_Some [] found e) (omega arith, refl, refl)
callers_lawful (Some (array tables)) found e = counted_lawful (nat_le (schema.count tables) 64) tables found (few (schema.count tables)) e
callers_lawful (Some (string x)) found e = absurd (none-some found e)
callers_lawful (Some (integer x)) found e = absurd (none-some found e)
callers_lawful (Some (float x)) found e = absurd (none-some found e)
callers_lawful (Some (boolean x)) found e = absurd (none-some found e)
callers_lawful (Some (datetime x)) found e = absurd (none-some found e)
callers_lawful (Some (table x)) found e = absurd (none-some found e)

-- ---- settings

lawful : (document : Members) (settings : Settings) → schema.settings_of document ≡ Ok settings → IsLawful settings
lawful document settings e =
    let (low, low_is, e1) = need_ok _ (schema.name_min document) _ settings e in
    let (high, high_is, e2) = need_ok _ (schema.name_max low document) _ settings e1 in
    let (nesting, nesting_is, e3) = need_ok _ (schema.max_nesting document) _ settings e2 in
    let (statements, statements_is, e4) = need_ok _ (schema.max_statements document) _ settings e3 in
    let (prefix, prefix_is, e5) = need_ok _ (schema.global_prefix document) _ settings e4 in
    let (rules, rules_is, e6) = need_ok _ (schema.disabled document) _ settings e5 in
    let (callers, callers_is, e7) = need_ok _ (schema.callers document) _ settings e6 in
    let low_inside = number_lawful 1 128 1 (get_member field.name_min document) low refl low_is in
    let (few, each, differ) = callers_lawful (get_member field.caller document) callers callers_is in
    subst IsLawful (without_ok _ _ settings e7)
    (record {
      name_min = low_inside;
      name_max = number_lawful low 128 (max 32 low) (get_member field.name_max document) high (default_inside low low_inside) high_is;
      max_nesting = number_lawful 1 64 6 (get_member field.max_nesting document) nesting refl nesting_is;
      max_statements = number_lawful 1 100000 500 (get_member field.max_statements document) statements refl statements_is;
      global_prefix = prefix_lawful (get_member field.global_prefix document) prefix prefix_is;
      disabled = rules_lawful (get_member field.disabled document) rules rules_is;
      callers = few;
      each_caller = each;
      callers_differ = differ;
    })

pub lawful_reading : (document : Members) (result : Result Settings SettingsRefusal) → schema.IsReading (schema.settings_of document) result → IfOk result IsLawful
lawful_reading document (Ok settings) e = lawful document settings e
lawful_reading document (Err (Bad field)) e = tt
lawful_reading document (Err NoMemory) e = tt
