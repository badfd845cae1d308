-- Statements as the code reads them: a leading name first, and what may follow it behind; a CASE as
-- one list of labels and statements. These rules spell what those of the grammar do. A step on the
-- way from the code to the grammar.
use Rattle.std.specs.Prelude.{ℕ, zero, suc, List, [], ◌∷◌, ◌++◌}
use Rattle.token_grammar.specs.declared.token.TokenKind.TheVariants as k
use Rattle.token_grammar.specs.Grammar.{Rule, ◌>>=◌, ◌or◌, give, token, node, many}
use Rattle.st_tree.specs.declared.expression.Identifier.{Identifier}
use Rattle.st_tree.specs.declared.statement.Stmt.{Stmt}
use Rattle.st_tree.specs.declared.statement.Case.{Case}
use Rattle.st_expr.specs.Grammar.{identifier, parts, located, expression}
use Rattle.st_statements.specs.Trees.{make_assign}
use Rattle.st_statements.specs.steps.ReadTrees.{path_from, assign_from, call_from, Branches, labelled, closed, with_stmt, with_labels}
use Rattle.st_statements.specs.Grammar.{called, return_stmt, exit_stmt, continue_stmt, value_point, point_behind, labels, labels_behind, choice, counted, while_stmt, repeat_stmt, selection_of}

-- name "(" [ arg { "," arg } ] ")" ";"
abbrev pub call_behind : Identifier → Rule Stmt
call_behind name = called >>= λ found. token k.Semicolon >>= λ l. give (call_from name found l.end)

-- name { part } ":=" expr ";"
abbrev pub assign_behind : Identifier → Rule Stmt
assign_behind name = parts expression >>= λ ps. token k.Becomes >>= λ _. expression
    >>= λ x. token k.Semicolon >>= λ l. give (assign_from name (path_from name ps) x l.end)

abbrev pub behind_name : Identifier → Rule Stmt
behind_name name = call_behind name or assign_behind name

abbrev pub named : Rule Stmt
named = identifier >>= behind_name

-- ---- statements without others within

-- address { part } ":=" expr ";"
abbrev pub assign : Rule Stmt
assign = node make_assign (located expression >>= λ target. token k.Becomes
    >>= λ _. expression >>= λ x. token k.Semicolon >>= λ _. give (target, x))

-- ---- over statements that don't begin with a name

module _ (inner : Rule Stmt) where
  abbrev pub item : List Stmt → Rule (List Stmt)
  item found = (token k.Semicolon >>= λ _. give found)
      or ((named >>= λ s. give (found ++ s ∷ [])) or (inner >>= λ s. give (found ++ s ∷ [])))

  abbrev pub body : Rule (List Stmt)
  body = many item []

  -- What may follow the first labels of a CASE: an empty statement, labels, or a statement.
  abbrev pub case_behind : Branches → Identifier → Rule Branches
  case_behind b name =
      (point_behind name >>= λ first. labels_behind first >>= λ ls. give (with_labels b ls))
      or (behind_name name >>= λ s. give (with_stmt b s))

  abbrev pub case_item : Branches → Rule Branches
  case_item b = (token k.Semicolon >>= λ _. give b) or ((identifier >>= case_behind b)
      or ((value_point >>= λ first. labels_behind first >>= λ ls. give (with_labels b ls))
      or (inner >>= λ s. give (with_stmt b s))))

  abbrev pub branches : Rule (List Case)
  branches = labels >>= λ ls. many case_item (labelled ls) >>= λ b. give (closed b)

  -- a statement that doesn't begin with a name
  abbrev pub unnamed : Rule Stmt
  unnamed = return_stmt or (exit_stmt or (continue_stmt
      or (choice body or (selection_of body branches
      or (counted body or (while_stmt body or (repeat_stmt body or assign)))))))

-- A statement that doesn't begin with a name, in which such statements nest less deep than the
-- number.
unfoldable pub nested : ℕ → Rule Stmt
nested zero d w x e = ⊥
nested (suc n) d w x e = unnamed (nested n) d w x e
