-- A function value that parses statements that don't begin with a name, to a depth.
use Rattle.std.specs.Prelude.{ℕ, Result}
use Rattle.std.specs.declared.alloc.Global.{Global}
use denote.Ref.{MutBor}
use Rattle.token_grammar.specs.declared.cursor.Cursor.{Cursor}
use Rattle.token_grammar.specs.declared.fault.ParseError.{ParseError}
use Rattle.token_grammar.specs.steps.Parsers.{Reads, view}
use Rattle.st_tree.specs.declared.statement.Stmt.{Stmt}
use Rattle.st_statements.specs.steps.Parse.{nested}

pub record NestsStatements (nest : ℕ) (pre : Global → MutBor Cursor → ℕ → Type 0)
    (post : Global → MutBor Cursor → ℕ → Result Stmt ParseError → MutBor Cursor → Type 0)
    : Type 0 where
  pub callable : (alloc : Global) (old : MutBor Cursor) → pre alloc old nest
  pub reads : (alloc : Global) (old new : MutBor Cursor) (r : Result Stmt ParseError)
      → post alloc old nest r new
      → Reads (nested nest (view old.now)) r (view new.now)
