-- The rules of statements as they are read spell what those of the grammar do.
use Rattle.std.proofs.Common.{ℕ, zero, suc, ◌≤◌, List, [], ◌∷◌, arith, inl, inr}
use Rattle.token_grammar.specs.Grammar.{Word, Rule, ◌or◌}
use Rattle.token_grammar.proofs.Same.{SubRule, sub_self, sub_over, sub_bind, sub_then, sub_before, sub_or, sub_scoped, sub_node, sub_many, bind_or}
use Rattle.st_tree.specs.declared.statement.Stmt.{Stmt}
use Rattle.st_tree.specs.declared.statement.Branch.{Branch}
use Rattle.st_tree.specs.declared.statement.Case.{Case}
use Rattle.st_statements.specs.Trees.{make_if, make_case, make_for, make_while, make_repeat}
use Rattle.st_statements.specs.Grammar as g
use Rattle.st_statements.specs.steps.Reading as reading
use Rattle.st_statements.proofs.NamedStatements.{named_to, named_back, located_assign_to}
use Rattle.st_statements.proofs.CaseBranches.{same_cases}

-- ---- rules over the statements within

module _ {body other : Rule (List Stmt)} (h : SubRule body other) where
  otherwise : SubRule (g.otherwise body) (g.otherwise other)
  otherwise = sub_or (sub_then (λ _. sub_before h)) sub_self

  guarded : SubRule (g.guarded body) (g.guarded other)
  guarded = sub_then (λ c. sub_then (λ _. sub_before h))

  more_branches : (found : List Branch)
      → SubRule (g.more_branches body found) (g.more_branches other found)
  more_branches found = sub_then (λ _. sub_before guarded)

  some_branches : SubRule (g.some_branches body) (g.some_branches other)
  some_branches = sub_bind guarded (λ b. sub_many more_branches (b ∷ []))

  choice : SubRule (g.choice body) (g.choice other)
  choice = sub_scoped
      (sub_node make_if (sub_then (λ _. sub_bind some_branches (λ found. sub_before otherwise))))

  counted : SubRule (g.counted body) (g.counted other)
  counted = sub_scoped
      (sub_node make_for (sub_then (λ _. sub_then (λ c. sub_then (λ _. sub_before h)))))

  while_stmt : SubRule (g.while_stmt body) (g.while_stmt other)
  while_stmt = sub_scoped
      (sub_node make_while (sub_then (λ _. sub_then (λ c. sub_then (λ _. sub_before h)))))

  repeat_stmt : SubRule (g.repeat_stmt body) (g.repeat_stmt other)
  repeat_stmt = sub_scoped (sub_node make_repeat (sub_then (λ _. sub_before h)))

  one_case : SubRule (g.one_case body) (g.one_case other)
  one_case = sub_then (λ ls. sub_before h)

  cases : SubRule (g.cases body) (g.cases other)
  cases = sub_bind one_case (λ c. sub_many (λ found. sub_before one_case) (c ∷ []))

  selection : {branches others : Rule (List Case)} → SubRule branches others
      → SubRule (g.selection_of body branches) (g.selection_of other others)
  selection k = sub_scoped (sub_node make_case (sub_then (λ _. sub_then (λ x. sub_then (λ _.
      sub_bind k (λ found. sub_before otherwise))))))

-- ---- from the grammar

-- a statement of the grammar, over what is read within
statement_to : (body : Rule (List Stmt)) (inner : Rule Stmt) → SubRule body (reading.body inner)
    → SubRule (g.statement body) (reading.named or reading.unnamed inner)
statement_to body inner h = record { to = by }
  where
    named : {d : ℕ} {w : Word} {s : Stmt} {e : ℕ} → (reading.named or reading.assign) d w s e
        → (reading.named or reading.unnamed inner) d w s e
    named (inl l) = inl l
    named (inr l) = inr (inr (inr (inr (inr (inr (inr (inr (inr l))))))))

    by : (d : ℕ) (w : Word) (s : Stmt) (e : ℕ) → g.statement body d w s e
        → (reading.named or reading.unnamed inner) d w s e
    by d w s e (inl l) = named (named_back.to d w s e (inl l))
    by d w s e (inr (inl l)) = named (named_back.to d w s e (inr l))
    by d w s e (inr (inr (inl l))) = inr (inl l)
    by d w s e (inr (inr (inr (inl l)))) = inr (inr (inl l))
    by d w s e (inr (inr (inr (inr (inl l))))) = inr (inr (inr (inl l)))
    by d w s e (inr (inr (inr (inr (inr (inl l)))))) =
        inr (inr (inr (inr (inl ((choice h).to d w s e l)))))
    by d w s e (inr (inr (inr (inr (inr (inr (inl l))))))) =
        inr (inr (inr
        (inr (inr (inl ((selection h (sub_over (cases h) (same_cases inner).from)).to d w s e
        l))))))
    by d w s e (inr (inr (inr (inr (inr (inr (inr (inl l)))))))) =
        inr (inr (inr (inr (inr (inr (inl ((counted h).to d w s e l)))))))
    by d w s e (inr (inr (inr (inr (inr (inr (inr (inr (inl l))))))))) =
        inr (inr (inr (inr (inr (inr (inr (inl ((while_stmt h).to d w s e l))))))))
    by d w s e (inr (inr (inr (inr (inr (inr (inr (inr (inr l))))))))) =
        inr (inr (inr (inr (inr (inr (inr (inr (inl ((repeat_stmt h).to d w s e l)))))))))

-- ---- to the grammar

module _ (body : Rule (List Stmt)) where
  named_from : SubRule reading.named (g.statement body)
  named_from = record {
    to = λ d w s e l. elim (named_to.to d w s e l)
        [ inl l ↦ inl l | inr l ↦ inr (inl l) ];
  }

  unnamed_from : (inner : Rule Stmt) → SubRule (reading.body inner) body
      → SubRule (reading.unnamed inner) (g.statement body)
  unnamed_from inner h = record { to = by }
    where
      by : (d : ℕ) (w : Word) (s : Stmt) (e : ℕ) → reading.unnamed inner d w s e
          → g.statement body d w s e
      by d w s e (inl l) = inr (inr (inl l))
      by d w s e (inr (inl l)) = inr (inr (inr (inl l)))
      by d w s e (inr (inr (inl l))) = inr (inr (inr (inr (inl l))))
      by d w s e (inr (inr (inr (inl l)))) =
          inr (inr (inr (inr (inr (inl ((choice h).to d w s e l))))))
      by d w s e (inr (inr (inr (inr (inl l))))) =
          let branches = sub_over (same_cases inner).to (cases h) in
          inr (inr (inr (inr (inr (inr (inl ((selection h branches).to d w s e l)))))))
      by d w s e (inr (inr (inr (inr (inr (inl l)))))) =
          inr (inr (inr (inr (inr (inr (inr (inl ((counted h).to d w s e l))))))))
      by d w s e (inr (inr (inr (inr (inr (inr (inl l))))))) =
          inr (inr (inr (inr (inr (inr (inr (inr (inl ((while_stmt h).to d w s e l)))))))))
      by d w s e (inr (inr (inr (inr (inr (inr (inr (inl l)))))))) =
          inr (inr (inr (inr (inr (inr (inr (inr (inr ((repeat_stmt h).to d w s e l)))))))))
      by d w s e (inr (inr (inr (inr (inr (inr (inr (inr l)))))))) =
          inl (located_assign_to.to d w s e l)

-- ---- lists of statements

body_to : {rule inner : Rule Stmt} → SubRule rule (reading.named or inner)
    → SubRule (g.body rule) (reading.body inner)
body_to h = sub_many (λ found. sub_or sub_self (sub_over (sub_before h) bind_or.to)) []

body_from : {rule inner : Rule Stmt} → SubRule (reading.named or inner) rule
    → SubRule (reading.body inner) (g.body rule)
body_from h = sub_many (λ found. sub_or sub_self (sub_over bind_or.from (sub_before h))) []

-- ---- to each depth

nested_to : (m k : ℕ) → m ≤ k → SubRule (g.nested m) (reading.named or reading.nested k)
unfolding g.nested reading.nested
nested_to zero k le = record { to = λ d w s e l. absurd l }
nested_to (suc m) zero le = absurd (omega (arith, le))
nested_to (suc m) (suc k) le =
    let all = statement_to (g.body (g.nested m)) (reading.nested k)
    (body_to (nested_to m k (omega (arith, le)))) in
    record { to = λ d w s e l. all.to d w s e l }

nested_from : (m : ℕ) → SubRule (reading.named or reading.nested m) (g.nested (suc m))
unfolding g.nested reading.nested
nested_from zero = record {
  to = λ d w s e either. elim either [
    | inl l ↦ (named_from (g.body (g.nested zero))).to d w s e l
    | inr l ↦ absurd l
  ];
}
nested_from (suc m) =
    let all = unnamed_from (g.body (g.nested (suc m))) (reading.nested m)
    (body_from (nested_from m)) in
    record {
      to = λ d w s e either. elim either [
        | inl l ↦ (named_from (g.body (g.nested (suc m)))).to d w s e l
        | inr l ↦ all.to d w s e l
      ];
    }

-- statements that nest less deep than the first number are read by the rules of any number that is
-- no less
pub to_reading : (m k : ℕ) → m ≤ k → SubRule (g.body (g.nested m)) (reading.body (reading.nested k))
to_reading m k le = body_to (nested_to m k le)

pub from_reading : (m : ℕ) → SubRule (reading.body (reading.nested m)) (g.body (g.nested (suc m)))
from_reading m = body_from (nested_from m)
