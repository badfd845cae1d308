-- The turns of a loop over the names of a block's VAR_IN_OUT.
use Rattle.std.proofs.Common.{◌≡◌, ℕ, ◌+◌, ◌<◌, Bool, true, false, ◌||◌, List, [], ◌∷◌, length, get_or, slice_get, drop, refl, sym, ap, ◌∙◌}
use Rattle.std.specs.List.{list_any}
use Rattle.std.proofs.lemmas.List.{get_or_default}
use Rattle.std.proofs.lemmas.Option.{slice_get-get_or}
use Rattle.st_tree.specs.declared.statement.StmtArgument.{StmtArgument}
use Rattle.body_rules.specs.Calls.{is_missing}
use Rattle.body_rules.specs.steps.Missing as steps
use Rattle.body_rules.proofs.Turns.{cut}

any_cons : {E : Type 0} (test : E → Bool) (e : E) (es : List E)
    → list_any test (e ∷ es) ≡ (test e || list_any test es)
any_cons test e es = refl

any_of : (arguments : List StmtArgument) (names : List (List ℕ)) (i : ℕ) (b : Bool)
    → i < length names → b ≡ steps.is_missing arguments (slice_get names i)
    → list_any (is_missing arguments) (drop i names)
    ≡ (b || list_any (is_missing arguments) (drop (i + 1) names))
any_of arguments names i b lt told =
    let x = get_or names i [] in
    ap (list_any (is_missing arguments)) (cut names i x lt (get_or_default names i [] x lt))
    ∙ any_cons (is_missing arguments) x (drop (i + 1) names)
    ∙ ap (λ c. c || list_any (is_missing arguments) (drop (i + 1) names))
    (sym (told ∙ ap (steps.is_missing arguments) (slice_get-get_or names i [] lt)))

pub missing_stop : (arguments : List StmtArgument) (names : List (List ℕ)) (i : ℕ) (b : Bool)
    → i < length names → b ≡ steps.is_missing arguments (slice_get names i) → b ≡ true
    → list_any (is_missing arguments) (drop i names) ≡ true
missing_stop arguments names i b lt told is =
    any_of arguments names i b lt told
    ∙ ap (λ c. c || list_any (is_missing arguments) (drop (i + 1) names)) is

pub missing_next : (arguments : List StmtArgument) (names : List (List ℕ)) (i : ℕ) (b : Bool)
    → i < length names → b ≡ steps.is_missing arguments (slice_get names i) → b ≡ false
    → list_any (is_missing arguments) (drop i names)
    ≡ list_any (is_missing arguments) (drop (i + 1) names)
missing_next arguments names i b lt told is =
    any_of arguments names i b lt told
    ∙ ap (λ c. c || list_any (is_missing arguments) (drop (i + 1) names)) is
