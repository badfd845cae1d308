-- The parser of statements reads their grammar, to any depth.
use Rattle.std.proofs.Common.{ℕ, suc, ◌+◌, arith}
use Rattle.token_grammar.proofs.Laws.{Exact}
use Rattle.token_grammar.proofs.Starts.{sees_any, IsLevel}
use Rattle.token_grammar.proofs.Loose.{Loose}
use Rattle.token_grammar.proofs.Same.{SameRule, some_of, exact_as, exact_some_of, level_sub, level_some_of, loose_sub, loose_some_of, sub_some_of}
use Rattle.st_statements.specs.Grammar as g
use Rattle.st_statements.specs.steps.Reading as reading
use Rattle.st_statements.specs.steps.Parse as p
use Rattle.st_statements.proofs.SimpleStatements.{Shallow}
use Rattle.st_statements.proofs.ReadingForms.{statement_kinds, exact_nested_body, level_nested_body, loose_nested_body}
use Rattle.st_statements.proofs.SameStatements.{to_reading, from_reading}

-- Statements that may nest at least as deep as the number, as they are read, are those of the
-- grammar.
from_depth : (k : ℕ) → SameRule (some_of (λ n. reading.body (reading.nested (k + n)))) g.statements
from_depth k = record {
  to = sub_some_of (λ n. suc (k + n)) (λ n. from_reading (k + n));
  from = sub_some_of (λ n. n) (λ n. to_reading n (k + n) (omega arith));
}

pub exact_statements : Exact Shallow (p.body (p.nested 257)) g.statements (sees_any statement_kinds)
exact_statements =
    exact_as (from_depth 258) (exact_some_of (λ n. exact_nested_body 257 (258 + n) (omega arith)))

pub level_statements : IsLevel g.statements
level_statements = level_sub (from_depth 0).from (level_some_of (λ n. level_nested_body (0 + n)))

pub loose_statements : Loose g.statements statement_kinds
loose_statements = loose_sub (from_depth 0).from (loose_some_of (λ n. loose_nested_body (0 + n)))
