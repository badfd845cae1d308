-- What is gathered from the words of units and files.
use Rattle.std.proofs.Common.{List, [], ◌++◌, refl}
use Rattle.std.proofs.Common.{sym}
use Rattle.std.specs.Prelude.{flat_map}
use Rattle.std.proofs.lemmas.List.{append-nil}
use Rattle.token_grammar.specs.Grammar.{Word}
use Rattle.st_tree.specs.declared.expression.Identifier.{Identifier}
use Rattle.st_tree.specs.declared.declaration.Section.{Section}
use Rattle.st_tree.specs.declared.file.Body.{Body}
use Rattle.st_tree.specs.declared.file.Body.TheVariants as bodies
use Rattle.st_tree.specs.declared.file.Unit.{Unit as UnitTree}
use Rattle.st_tree.specs.declared.file.UnitKind.{UnitKind}
use Rattle.st_tree.specs.declared.file.UnitKind.TheVariants as kinds
use Rattle.st_tree.specs.declared.file.FilePart.{FilePart}
use Rattle.st_tree.specs.declared.file.FilePart.TheVariants as part
use Rattle.st_units.specs.Trees.{make_unit}
use Rattle.st_units.specs.Grammar as g
use Rattle.tree_order.proofs.Gathering.{Gathering, Lists, filled_token, filled_first, gathers_give}
use Rattle.tree_order.proofs.Gathering.{gathers_then, gathers_behind, lists_or, lists, lists_node}
use Rattle.tree_order.proofs.Gathering.{gathers_another, lists_many}
use Rattle.tree_order.proofs.ExpressionLists.{ExprLists, of_identifier}
use Rattle.tree_order.proofs.ExpressionLists as exprs
use Rattle.tree_order.proofs.StatementLists.{StmtLists}
use Rattle.tree_order.proofs.StatementLists as stmts
use Rattle.tree_order.proofs.DeclarationLists.{DeclLists, of_type_name, of_section, of_types}
use Rattle.tree_order.proofs.DeclarationLists.{of_globals, of_config}
use Rattle.tree_order.proofs.DeclarationLists as decls
use Rattle.tree_order.proofs.ChartLists.{of_sfc}
use Rattle.tree_order.proofs.ChartLists as charts

-- the type of a function's result
abbrev pub of_unit_kind : {M : Type 0} {P : Word → List M → Type 0} → Gathering P → UnitKind →
    List M
of_unit_kind G (kinds.Function name) = of_type_name G name
of_unit_kind G kinds.Block = []
of_unit_kind G kinds.Program = []

module _ {M : Type 0} {P : Word → List M → Type 0} {G : Gathering P} {E : ExprLists G}
    (S : StmtLists E) where
  abbrev pub of_body : Body → List M
  of_body (bodies.Statements found) = flat_map S.of_stmt found
  of_body (bodies.Chart chart) = of_sfc S chart

  body : Lists P of_body g.body
  body =
      lists_or G (lists G (gathers_then G (charts.sfc S)
      (λ c. gathers_give G (sym (append-nil (of_sfc S c))))))
      (lists G (gathers_then G (stmts.statements S)
      (λ b. gathers_give G (sym (append-nil (flat_map S.of_stmt b))))))

module _ {M : Type 0} {P : Word → List M → Type 0} {G : Gathering P} {E : ExprLists G}
    (S : StmtLists E) (D : DeclLists E) where
  -- a unit is gathered in the order of the text: the type of a function's result stands behind its
  -- name
  abbrev pub of_unit : UnitTree → List M
  of_unit x =
      G.own x.node ++ (of_identifier G x.name
      ++ (of_unit_kind G x.kind ++ (flat_map (of_section D) x.sections ++ of_body S x.body)))

  abbrev pub of_file_part : FilePart → List M
  of_file_part (part.Unit x) = of_unit x
  of_file_part (part.Types x) = of_types D x
  of_file_part (part.Globals x) = of_globals D x
  of_file_part (part.Config x) = of_config D x

  abbrev inside_unit : UnitKind × Identifier × List Section × Body → List M
  inside_unit p =
      of_identifier G p.1 ++ (of_unit_kind G p.0 ++ (flat_map (of_section D) p.2 ++ of_body S p.3))

  function : Lists P of_unit g.function
  function =
      lists_node G inside_unit of_unit make_unit (filled_first (filled_token 0 0))
      (λ start end p. refl)
      (lists G (gathers_behind G 0 0 (λ t. gathers_then G (exprs.identifier G)
      (λ name. gathers_behind G 0 0 (λ c. gathers_then G (decls.typename E)
      (λ result. gathers_then G (decls.sections D) (λ ss. gathers_then G (body S) (λ b.
      gathers_behind G 0 0 (λ e. gathers_give G (rw append-nil refl))))))))))

  block : Lists P of_unit g.block
  block =
      lists_node G inside_unit of_unit make_unit (filled_first (filled_token 0 0))
      (λ start end p. refl)
      (lists G (gathers_behind G 0 0 (λ t. gathers_then G (exprs.identifier G)
      (λ name. gathers_then G (decls.sections D)
      (λ ss. gathers_then G (body S)
      (λ b. gathers_behind G 0 0 (λ e. gathers_give G (rw append-nil refl))))))))

  program : Lists P of_unit g.program
  program =
      lists_node G inside_unit of_unit make_unit (filled_first (filled_token 0 0))
      (λ start end p. refl)
      (lists G (gathers_behind G 0 0 (λ t. gathers_then G (exprs.identifier G)
      (λ name. gathers_then G (decls.sections D)
      (λ ss. gathers_then G (body S)
      (λ b. gathers_behind G 0 0 (λ e. gathers_give G (rw append-nil refl))))))))

  file_part : Lists P of_file_part g.file_part
  file_part =
      lists_or G (lists G (gathers_then G function
      (λ u. gathers_give G (sym (append-nil (of_unit u))))))
      (lists_or G (lists G
      (gathers_then G block (λ u. gathers_give G (sym (append-nil (of_unit u))))))
      (lists_or G (lists G
      (gathers_then G program (λ u. gathers_give G (sym (append-nil (of_unit u))))))
      (lists_or G (lists G
      (gathers_then G (decls.types D) (λ t. gathers_give G (sym (append-nil (of_types D t))))))
      (lists_or G (lists G
      (gathers_then G (decls.globals D)
      (λ v. gathers_give G (sym (append-nil (of_globals D v))))))
      (lists G (gathers_then G (decls.config D)
      (λ c. gathers_give G (sym (append-nil (of_config D c))))))))))

  pub file : Lists P (flat_map of_file_part) g.file
  file = lists_many G of_file_part (gathers_another G file_part)
