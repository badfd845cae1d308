-- Tables of rules, and the rules S01 to S24. Source: PLCopen, Coding Guidelines, whose numbers the labels are: N for naming, C
-- for comments, CP for coding practice, L for languages. The choice of the rules, their codes, and the groups of those without
-- a label are this profile's. The code searches by halves and has a row for each rule; here a rule is named by what it holds,
-- and the codes, labels and groups are a list each.
use Rattle.std.specs.Prelude.{◌≡◌, ℕ, Bool, List, [], ◌∷◌, ◌++◌, replicate, codes}
use Rattle.std.specs.List.{Contains, range_with_len}
use Rattle.std.specs.Ordering.{nat_cmp}
use Rattle.iec_tables.specs.declared.rule.Rule.{Rule}
use Rattle.iec_tables.specs.Rising.{keys_rise}

-- the codes rise strictly
abbrev pub codes_rise : List Rule → Bool
codes_rise rows = keys_rise nat_cmp (λ row. row.code) rows

-- that rule is a row and has that code
pub record IsRuleOf (rows : List Rule) (code : ℕ) (rule : Rule) : Type 0 where
  pub there : Contains rows rule
  pub code_is : rule.code ≡ code

-- no row has that code
abbrev pub HasNoRule : List Rule → ℕ → Type 0
HasNoRule rows code = (row : Rule) → Contains rows row → ¬ (row.code ≡ code)

-- ---- the rules S01 to S24

-- 1 to 24
abbrev pub rule_codes : List ℕ
rule_codes = range_with_len 1 24

-- the labels of S01 to S24, `-` where the guidelines don't number the rule
abbrev pub rule_labels : List (List ℕ)
rule_labels =
    codes "N1" ∷ codes "N5" ∷ codes "N6" ∷ codes "-" ∷ codes "-" ∷
    codes "C3" ∷ codes "-" ∷ codes "-" ∷
    codes "CP10" ∷ codes "CP12" ∷ codes "CP13" ∷ codes "CP14" ∷ codes "CP24" ∷ codes "CP25" ∷ codes "CP26" ∷
    codes "-" ∷ codes "-" ∷ codes "-" ∷
    codes "-" ∷ codes "-" ∷ codes "-" ∷ codes "-" ∷ codes "-" ∷ codes "-" ∷ []

-- the groups of S01 to S05, S06 to S08, S09 to S18 and S19 to S24
abbrev pub rule_groups : List (List ℕ)
rule_groups = replicate 5 (codes "N") ++ replicate 3 (codes "C") ++ replicate 10 (codes "CP") ++ replicate 6 (codes "L")
