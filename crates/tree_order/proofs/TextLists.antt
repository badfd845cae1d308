-- The texts of the tokens that a tree is made of: each is the text of a lexeme of that kind in the
-- word.
use Rattle.std.proofs.Common.{◌≡◌, ℕ, Bool, true, List, [], ◌∷◌, ◌++◌, map, Option, Some, None}
use Rattle.std.proofs.Common.{refl, sym, ap, ◌∙◌, inl, inr, ◌⊎◌}
use Rattle.std.specs.Prelude.{flat_map}
use Rattle.std.proofs.lemmas.List.Folds.{flat_map-map}
use denote.Hole.Carrier
use Rattle.token_grammar.specs.declared.token.TokenKind.{TokenKind}
use Rattle.token_grammar.specs.declared.token.TokenKind.TheVariants as k
use Rattle.token_grammar.specs.Texts.{Lexeme}
use Rattle.token_grammar.specs.Kinds.{is_kind}
use Rattle.token_grammar.specs.Grammar.{Word}
use Rattle.st_tree.specs.declared.node.Node.{Node}
use Rattle.st_tree.specs.declared.expression.Identifier.{Identifier}
use Rattle.st_tree.specs.declared.expression.Expr.{Expr, roll-Expr, fold-Expr, fold-roll-Expr}
use Rattle.st_tree.specs.declared.expression.Expr.{map-Expr}
use Rattle.st_tree.specs.declared.expression.Expr.TheVariants as expr
use Rattle.st_tree.specs.declared.expression.Expr.TheOpen.{Expr-F, Part-F, Argument-F, Path-F}
use Rattle.st_tree.specs.declared.expression.Part.{Part, roll-Part, fold-Part, fold-roll-Part}
use Rattle.st_tree.specs.declared.expression.Part.{map-Part}
use Rattle.st_tree.specs.declared.expression.Part.TheVariants as part
use Rattle.st_tree.specs.declared.expression.Argument.{Argument, rolls-Argument', fold-Argument}
use Rattle.st_tree.specs.declared.expression.Argument.{fold-roll-Argument, map-Argument}
use Rattle.st_tree.specs.declared.expression.Path.{Path, rolls-Path', fold-Path, fold-roll-Path}
use Rattle.st_tree.specs.declared.expression.Path.{map-Path}
use Rattle.st_tree.specs.declared.statement.StmtArgument.{StmtArgument}
use Rattle.st_tree.specs.declared.statement.Counter.{Counter}
use Rattle.st_tree.specs.declared.declaration.TypeName.{TypeName}
use Rattle.st_tree.specs.declared.declaration.Range.{Range}
use Rattle.st_tree.specs.declared.statement.Stmt.{Stmt, roll-Stmt, fold-Stmt, fold-roll-Stmt}
use Rattle.st_tree.specs.declared.statement.Stmt.{map-Stmt}
use Rattle.st_tree.specs.declared.statement.Stmt.TheVariants as stmt
use Rattle.st_tree.specs.declared.statement.Stmt.TheOpen.{Stmt-F, Branch-F, Case-F}
use Rattle.st_tree.specs.declared.statement.Branch.{Branch, rolls-Branch', fold-Branch}
use Rattle.st_tree.specs.declared.statement.Branch.{fold-roll-Branch, map-Branch}
use Rattle.st_tree.specs.declared.statement.Case.{Case, rolls-Case', fold-Case, fold-roll-Case}
use Rattle.st_tree.specs.declared.statement.Case.{map-Case}
use Rattle.st_tree.specs.declared.declaration.Spec.{Spec, roll-Spec, fold-Spec, fold-roll-Spec}
use Rattle.st_tree.specs.declared.declaration.Spec.{map-Spec}
use Rattle.st_tree.specs.declared.declaration.Spec.TheVariants as specs
use Rattle.st_tree.specs.declared.declaration.Spec.TheOpen.{Spec-F}
use Rattle.st_tree.specs.declared.declaration.Init.{Init, roll-Init, fold-Init, fold-roll-Init}
use Rattle.st_tree.specs.declared.declaration.Init.{map-Init}
use Rattle.st_tree.specs.declared.declaration.Init.TheVariants as inits
use Rattle.st_tree.specs.declared.declaration.Init.TheOpen.{Init-F, Item-F, FieldInit-F}
use Rattle.st_tree.specs.declared.declaration.Item.{Item, roll-Item, fold-Item, fold-roll-Item}
use Rattle.st_tree.specs.declared.declaration.Item.{map-Item}
use Rattle.st_tree.specs.declared.declaration.Item.TheVariants as items
use Rattle.st_tree.specs.declared.declaration.FieldInit.{FieldInit, rolls-FieldInit'}
use Rattle.st_tree.specs.declared.declaration.FieldInit.{fold-FieldInit, fold-roll-FieldInit}
use Rattle.st_tree.specs.declared.declaration.FieldInit.{map-FieldInit}
use Rattle.tree_order.proofs.Gathering.{Gathering}
use Rattle.tree_order.proofs.ExpressionLists.{ExprLists, of_identifier, of_root, list_if}
use Rattle.tree_order.proofs.StatementLists.{StmtLists, of_label, of_stmt_argument, of_counter}
use Rattle.tree_order.proofs.DeclarationLists.{DeclLists, of_type_name, of_range}

-- a kind of token, and the bytes of one
abbrev pub TokenText : Type 0
TokenText = TokenKind × List ℕ

-- A lexeme of the word is of this kind and has these bytes.
abbrev pub HasText : Word → TokenText → Type 0
HasText [] m = ⊥
HasText (p ∷ w) m = ((is_kind m.0 p.0 ≡ true) × (p.0.bytes ≡ m.1)) ⊎ HasText w m

abbrev pub HaveTexts : Word → List TokenText → Type 0
HaveTexts w [] = Unit {0}
HaveTexts w (m ∷ ms) = HasText w m × HaveTexts w ms

pub record AreTexts (w : Word) (ms : List TokenText) : Type 0 where
  pub texts : HaveTexts w ms

text_left : (u v : Word) (m : TokenText) → HasText u m → HasText (u ++ v) m
text_left [] v m h = absurd h
text_left (p ∷ u) v m (inl is) = inl is
text_left (p ∷ u) v m (inr h) = inr (text_left u v m h)

text_right : (u v : Word) (m : TokenText) → HasText v m → HasText (u ++ v) m
text_right [] v m h = h
text_right (p ∷ u) v m h = inr (text_right u v m h)

texts_both : (u v : Word) (ms ns : List TokenText) → HaveTexts u ms → HaveTexts v ns →
    HaveTexts (u ++ v) (ms ++ ns)
texts_both u v [] [] h k = tt
texts_both u v [] (n ∷ ns) h k = (text_right u v n k.0, texts_both u v [] ns h k.1)
texts_both u v (m ∷ ms) ns h k = (text_left u v m h.0, texts_both u v ms ns h.1 k)

pub nothing : AreTexts [] []
nothing = record { texts = tt }

pub one : (t : Lexeme) (n : ℕ) → AreTexts ((t, n) ∷ []) []
one t n = record { texts = tt }

pub spelled : (kind : TokenKind) (t : Lexeme) (n : ℕ) → is_kind kind t ≡ true →
    AreTexts ((t, n) ∷ []) ((kind, t.bytes) ∷ [])
spelled kind t n passes = record { texts = (inl (passes, refl), tt) }

pub both : (u v : Word) (ms ns : List TokenText) → AreTexts u ms → AreTexts v ns →
    AreTexts (u ++ v) (ms ++ ns)
both u v ms ns h k = record { texts = texts_both u v ms ns h.texts k.texts }

-- the text of each token is gathered, and nothing of a node
abbrev pub text_gathering : Gathering AreTexts
text_gathering = record {
  own = λ n. [];
  spelled = λ kind text. (kind, text) ∷ [];
  nothing = nothing;
  one = one;
  text = spelled;
  both = both;
  whole = λ w ms some h. h;
}

-- ---- the lists

-- the lists one behind the other
abbrev pub joined : List (List TokenText) → List TokenText
joined = flat_map (λ (ms : List TokenText). ms)

abbrev pub of_name : Identifier → List TokenText
of_name x = of_identifier text_gathering x

-- expressions, with the list of its texts in the place of each part that is again one
abbrev pub expr_texts : Expr-F (List TokenText) (List TokenText) (List TokenText) (List TokenText) →
    List TokenText
expr_texts (Expr-F.Number node minus text) = (k.Number, text) ∷ []
expr_texts (Expr-F.Typed node text) = (k.TypedNumber, text) ∷ []
expr_texts (Expr-F.Time node text) = (k.Duration, text) ∷ []
expr_texts (Expr-F.Truth node truth) = []
expr_texts (Expr-F.Path path) = path
expr_texts (Expr-F.Value node name value) = of_name name ++ of_name value
expr_texts (Expr-F.Parenthesized node inner) = inner
expr_texts (Expr-F.Unary node operator operand) = operand
expr_texts (Expr-F.Binary node operator left right) = left ++ right
expr_texts (Expr-F.Call node name arguments) = of_name name ++ joined arguments

abbrev pub part_texts : Part-F (List TokenText) (List TokenText) (List TokenText) (List TokenText) →
    List TokenText
part_texts (Part-F.Field name) = of_name name
part_texts (Part-F.Index node indices) = joined indices

abbrev pub argument_texts : Argument-F (List TokenText) (List TokenText) (List TokenText)
    (List TokenText) → List TokenText
argument_texts x = list_if of_name x.name ++ x.value

abbrev pub path_texts : Path-F (List TokenText) (List TokenText) (List TokenText) (List TokenText) →
    List TokenText
path_texts x = of_root text_gathering x.root ++ joined x.parts

unfoldable pub texts_of_expr : Expr → List TokenText
texts_of_expr =
    fold-Expr (List TokenText) (List TokenText) (List TokenText) (List TokenText) expr_texts
    part_texts argument_texts path_texts

unfoldable pub texts_of_part : Part → List TokenText
texts_of_part =
    fold-Part (List TokenText) (List TokenText) (List TokenText) (List TokenText) expr_texts
    part_texts argument_texts path_texts

unfoldable pub texts_of_argument : Argument → List TokenText
texts_of_argument =
    fold-Argument (List TokenText) (List TokenText) (List TokenText) (List TokenText) expr_texts
    part_texts argument_texts path_texts

unfoldable pub texts_of_path : Path → List TokenText
texts_of_path =
    fold-Path (List TokenText) (List TokenText) (List TokenText) (List TokenText) expr_texts
    part_texts argument_texts path_texts

-- the lists of the parts, one behind the other
pub joins : {A : Type 0} (texts : A → List TokenText) (xs : List A) → joined (map texts xs)
    ≡ flat_map texts xs
joins texts xs = flat_map-map (λ (ms : List TokenText). ms) texts xs

rolled_expr : (y : Expr-F Expr Part Argument Path) → texts_of_expr (roll-Expr y)
    ≡ expr_texts (map-Expr Expr Part Argument Path (List TokenText) (List TokenText)
    (List TokenText) (List TokenText) texts_of_expr texts_of_part texts_of_argument texts_of_path y)
unfolding texts_of_expr texts_of_part texts_of_argument texts_of_path
rolled_expr y =
    fold-roll-Expr (List TokenText) (List TokenText) (List TokenText) (List TokenText) expr_texts
    part_texts argument_texts path_texts y

rolled_part : (y : Part-F Expr Part Argument Path) → texts_of_part (roll-Part y)
    ≡ part_texts (map-Part Expr Part Argument Path (List TokenText) (List TokenText)
    (List TokenText) (List TokenText) texts_of_expr texts_of_part texts_of_argument texts_of_path y)
unfolding texts_of_expr texts_of_part texts_of_argument texts_of_path
rolled_part y =
    fold-roll-Part (List TokenText) (List TokenText) (List TokenText) (List TokenText) expr_texts
    part_texts argument_texts path_texts y

pub rolled_argument : (y : Argument-F Expr Part Argument Path) →
    texts_of_argument (record { node = y.node; name = y.name; value = y.value })
    ≡ argument_texts (map-Argument Expr Part Argument Path (List TokenText) (List TokenText)
    (List TokenText) (List TokenText) texts_of_expr texts_of_part texts_of_argument texts_of_path y)
unfolding texts_of_expr texts_of_part texts_of_argument texts_of_path
rolled_argument y =
    ap texts_of_argument (sym (rolls-Argument' y)) ∙ fold-roll-Argument (List TokenText)
    (List TokenText) (List TokenText) (List TokenText) expr_texts part_texts argument_texts
    path_texts y

pub rolled_path : (y : Path-F Expr Part Argument Path) →
    texts_of_path (record { node = y.node; root = y.root; parts = y.parts })
    ≡ path_texts (map-Path Expr Part Argument Path (List TokenText) (List TokenText)
    (List TokenText) (List TokenText) texts_of_expr texts_of_part texts_of_argument texts_of_path y)
unfolding texts_of_expr texts_of_part texts_of_argument texts_of_path
rolled_path y =
    ap texts_of_path (sym (rolls-Path' y)) ∙ fold-roll-Path (List TokenText) (List TokenText)
    (List TokenText) (List TokenText) expr_texts part_texts argument_texts path_texts y

pub number : (node : Node) (minus : Bool) (text : List ℕ) →
    texts_of_expr (expr.Number node minus text) ≡ (k.Number, text) ∷ []
unfolding roll-Expr Carrier.roll
number node minus text = rolled_expr (Expr-F.Number node minus text)

pub typed : (node : Node) (text : List ℕ) → texts_of_expr (expr.Typed node text)
    ≡ (k.TypedNumber, text) ∷ []
unfolding roll-Expr Carrier.roll
typed node text = rolled_expr (Expr-F.Typed node text)

pub time : (node : Node) (text : List ℕ) → texts_of_expr (expr.Time node text)
    ≡ (k.Duration, text) ∷ []
unfolding roll-Expr Carrier.roll
time node text = rolled_expr (Expr-F.Time node text)

pub truth : (node : Node) (b : Bool) → texts_of_expr (expr.Truth node b) ≡ []
unfolding roll-Expr Carrier.roll
truth node b = rolled_expr (Expr-F.Truth node b)

pub of_path : (p : Path) → texts_of_expr (expr.Path p) ≡ texts_of_path p
unfolding roll-Expr Carrier.roll
of_path p = rolled_expr (Expr-F.Path p)

pub value : (node : Node) (name v : Identifier) → texts_of_expr (expr.Value node name v)
    ≡ of_name name ++ of_name v
unfolding roll-Expr Carrier.roll
value node name v = rolled_expr (Expr-F.Value node name v)

pub parenthesized : (node : Node) (inner : Expr) → texts_of_expr (expr.Parenthesized node inner)
    ≡ texts_of_expr inner
unfolding roll-Expr Carrier.roll
parenthesized node inner = rolled_expr (Expr-F.Parenthesized node inner)

pub unary : (node : Node) (operator : _) (operand : Expr) →
    texts_of_expr (expr.Unary node operator operand) ≡ texts_of_expr operand
unfolding roll-Expr Carrier.roll
unary node operator operand = rolled_expr (Expr-F.Unary node operator operand)

pub binary : (node : Node) (operator : _) (left right : Expr) →
    texts_of_expr (expr.Binary node operator left right) ≡ texts_of_expr left ++ texts_of_expr right
unfolding roll-Expr Carrier.roll
binary node operator left right = rolled_expr (Expr-F.Binary node operator left right)

pub call : (node : Node) (name : Identifier) (arguments : List Argument) →
    texts_of_expr (expr.Call node name arguments) ≡ of_name name ++ flat_map texts_of_argument
    arguments
unfolding roll-Expr Carrier.roll
call node name arguments =
    rolled_expr (Expr-F.Call node name arguments) ∙ ap (λ (ms : List TokenText). of_name name ++ ms)
    (joins texts_of_argument arguments)

pub field : (name : Identifier) → texts_of_part (part.Field name) ≡ of_name name
unfolding roll-Part Carrier.roll
field name = rolled_part (Part-F.Field name)

pub index : (node : Node) (indices : List Expr) → texts_of_part (part.Index node indices)
    ≡ flat_map texts_of_expr indices
unfolding roll-Part Carrier.roll
index node indices = rolled_part (Part-F.Index node indices) ∙ joins texts_of_expr indices

abbrev pub expr_text_lists : ExprLists text_gathering
expr_text_lists = record {
  of_expr = texts_of_expr;
  of_part = texts_of_part;
  of_argument = texts_of_argument;
  of_path = texts_of_path;
  number = number;
  typed = typed;
  time = time;
  truth = truth;
  path = of_path;
  value = value;
  parenthesized = parenthesized;
  unary = unary;
  binary = binary;
  call = call;
  field = field;
  index = index;
  argument = λ node name v. rolled_argument (record { node = node; name = name; value = v });
  whole_path =
      λ node r parts. rolled_path (record { node = node; root = r; parts = parts })
      ∙ ap (λ (ms : List TokenText). of_root text_gathering r ++ ms) (joins texts_of_part parts);
}

-- ---- statements

-- statements, with the list of its texts in the place of each part that is again one
abbrev pub stmt_texts : Stmt-F (List TokenText) (List TokenText) (List TokenText) → List TokenText
stmt_texts (Stmt-F.Assign node target v) = texts_of_path target ++ texts_of_expr v
stmt_texts (Stmt-F.Call node name arguments) =
    of_name name ++ flat_map (of_stmt_argument expr_text_lists) arguments
stmt_texts (Stmt-F.Return node) = []
stmt_texts (Stmt-F.Exit node) = []
stmt_texts (Stmt-F.Continue node) = []
stmt_texts (Stmt-F.If node branches otherwise) = joined branches ++ list_if joined otherwise
stmt_texts (Stmt-F.Case node selector branches otherwise) =
    texts_of_expr selector ++ (joined branches ++ list_if joined otherwise)
stmt_texts (Stmt-F.For node counter body) = of_counter expr_text_lists counter ++ joined body
stmt_texts (Stmt-F.While node condition body) = texts_of_expr condition ++ joined body
stmt_texts (Stmt-F.Repeat node body condition) = joined body ++ texts_of_expr condition

abbrev pub branch_texts : Branch-F (List TokenText) (List TokenText) (List TokenText) →
    List TokenText
branch_texts x = texts_of_expr x.condition ++ joined x.body

abbrev pub case_texts : Case-F (List TokenText) (List TokenText) (List TokenText) → List TokenText
case_texts x = flat_map (of_label expr_text_lists) x.labels ++ joined x.body

unfoldable pub texts_of_stmt : Stmt → List TokenText
texts_of_stmt =
    fold-Stmt (List TokenText) (List TokenText) (List TokenText) stmt_texts branch_texts case_texts

unfoldable pub texts_of_branch : Branch → List TokenText
texts_of_branch =
    fold-Branch (List TokenText) (List TokenText) (List TokenText) stmt_texts branch_texts
    case_texts

unfoldable pub texts_of_case : Case → List TokenText
texts_of_case =
    fold-Case (List TokenText) (List TokenText) (List TokenText) stmt_texts branch_texts case_texts

rolled_stmt : (y : Stmt-F Stmt Branch Case) → texts_of_stmt (roll-Stmt y)
    ≡ stmt_texts (map-Stmt Stmt Branch Case (List TokenText) (List TokenText) (List TokenText)
    texts_of_stmt texts_of_branch texts_of_case y)
unfolding texts_of_stmt texts_of_branch texts_of_case
rolled_stmt y =
    fold-roll-Stmt (List TokenText) (List TokenText) (List TokenText) stmt_texts branch_texts
    case_texts y

pub rolled_branch : (y : Branch-F Stmt Branch Case) →
    texts_of_branch (record { condition = y.condition; body = y.body })
    ≡ branch_texts (map-Branch Stmt Branch Case (List TokenText) (List TokenText) (List TokenText)
    texts_of_stmt texts_of_branch texts_of_case y)
unfolding texts_of_stmt texts_of_branch texts_of_case
rolled_branch y =
    ap texts_of_branch (sym (rolls-Branch' y)) ∙ fold-roll-Branch (List TokenText) (List TokenText)
    (List TokenText) stmt_texts branch_texts case_texts y

pub rolled_case : (y : Case-F Stmt Branch Case) →
    texts_of_case (record { labels = y.labels; body = y.body })
    ≡ case_texts (map-Case Stmt Branch Case (List TokenText) (List TokenText) (List TokenText)
    texts_of_stmt texts_of_branch texts_of_case y)
unfolding texts_of_stmt texts_of_branch texts_of_case
rolled_case y =
    ap texts_of_case (sym (rolls-Case' y)) ∙ fold-roll-Case (List TokenText) (List TokenText)
    (List TokenText) stmt_texts branch_texts case_texts y

pub assign : (node : Node) (target : Path) (v : Expr) → texts_of_stmt (stmt.Assign node target v)
    ≡ texts_of_path target ++ texts_of_expr v
unfolding roll-Stmt Carrier.roll
assign node target v = rolled_stmt (Stmt-F.Assign node target v)

pub call_stmt : (node : Node) (name : Identifier) (arguments : List StmtArgument) →
    texts_of_stmt (stmt.Call node name arguments) ≡ of_name name
    ++ flat_map (of_stmt_argument expr_text_lists) arguments
unfolding roll-Stmt Carrier.roll
call_stmt node name arguments = rolled_stmt (Stmt-F.Call node name arguments)

pub return_ : (node : Node) → texts_of_stmt (stmt.Return node) ≡ []
unfolding roll-Stmt Carrier.roll
return_ node = rolled_stmt (Stmt-F.Return node)

pub exit : (node : Node) → texts_of_stmt (stmt.Exit node) ≡ []
unfolding roll-Stmt Carrier.roll
exit node = rolled_stmt (Stmt-F.Exit node)

pub continue : (node : Node) → texts_of_stmt (stmt.Continue node) ≡ []
unfolding roll-Stmt Carrier.roll
continue node = rolled_stmt (Stmt-F.Continue node)

pub if_ : (node : Node) (branches : List Branch) (otherwise : Option (List Stmt)) →
    texts_of_stmt (stmt.If node branches otherwise) ≡ flat_map texts_of_branch branches
    ++ list_if (flat_map texts_of_stmt) otherwise
unfolding roll-Stmt Carrier.roll
if_ node branches None =
    rolled_stmt (Stmt-F.If node branches None) ∙ ap (λ (ms : List TokenText). ms ++ [])
    (joins texts_of_branch branches)
if_ node branches (Some found) =
    rolled_stmt (Stmt-F.If node branches (Some found))
    ∙ ap (λ (ms : List TokenText). ms ++ joined (map texts_of_stmt found))
    (joins texts_of_branch branches)
    ∙ ap (λ (ms : List TokenText). flat_map texts_of_branch branches ++ ms)
    (joins texts_of_stmt found)

pub case_ : (node : Node) (selector : Expr) (cases : List Case) (otherwise : Option (List Stmt)) →
    texts_of_stmt (stmt.Case node selector cases otherwise) ≡ texts_of_expr selector
    ++ (flat_map texts_of_case cases ++ list_if (flat_map texts_of_stmt) otherwise)
unfolding roll-Stmt Carrier.roll
case_ node selector cases None =
    rolled_stmt (Stmt-F.Case node selector cases None)
    ∙ ap (λ (ms : List TokenText). texts_of_expr selector ++ (ms ++ [])) (joins texts_of_case cases)
case_ node selector cases (Some found) =
    rolled_stmt (Stmt-F.Case node selector cases (Some found))
    ∙ ap (λ (ms : List TokenText). texts_of_expr selector
    ++ (ms ++ joined (map texts_of_stmt found))) (joins texts_of_case cases)
    ∙ ap (λ (ms : List TokenText). texts_of_expr selector ++ (flat_map texts_of_case cases ++ ms))
    (joins texts_of_stmt found)

pub for_ : (node : Node) (counter : Counter) (body : List Stmt) →
    texts_of_stmt (stmt.For node counter body) ≡ of_counter expr_text_lists counter
    ++ flat_map texts_of_stmt body
unfolding roll-Stmt Carrier.roll
for_ node counter body =
    rolled_stmt (Stmt-F.For node counter body)
    ∙ ap (λ (ms : List TokenText). of_counter expr_text_lists counter ++ ms)
    (joins texts_of_stmt body)

pub while_ : (node : Node) (condition : Expr) (body : List Stmt) →
    texts_of_stmt (stmt.While node condition body) ≡ texts_of_expr condition
    ++ flat_map texts_of_stmt body
unfolding roll-Stmt Carrier.roll
while_ node condition body =
    rolled_stmt (Stmt-F.While node condition body)
    ∙ ap (λ (ms : List TokenText). texts_of_expr condition ++ ms) (joins texts_of_stmt body)

pub repeat_ : (node : Node) (body : List Stmt) (condition : Expr) →
    texts_of_stmt (stmt.Repeat node body condition) ≡ flat_map texts_of_stmt body
    ++ texts_of_expr condition
unfolding roll-Stmt Carrier.roll
repeat_ node body condition =
    rolled_stmt (Stmt-F.Repeat node body condition)
    ∙ ap (λ (ms : List TokenText). ms ++ texts_of_expr condition) (joins texts_of_stmt body)

abbrev pub stmt_text_lists : StmtLists expr_text_lists
stmt_text_lists = record {
  of_stmt = texts_of_stmt;
  of_branch = texts_of_branch;
  of_case = texts_of_case;
  assign = assign;
  call = call_stmt;
  return_ = return_;
  exit = exit;
  continue = continue;
  if_ = if_;
  case_ = case_;
  for_ = for_;
  while_ = while_;
  repeat_ = repeat_;
  branch =
      λ condition body. rolled_branch (record { condition = condition; body = body })
      ∙ ap (λ (ms : List TokenText). texts_of_expr condition ++ ms) (joins texts_of_stmt body);
  one_case =
      λ labels body. rolled_case (record { labels = labels; body = body })
      ∙ ap (λ (ms : List TokenText). flat_map (of_label expr_text_lists) labels ++ ms)
      (joins texts_of_stmt body);
}

-- ---- types and initial values

abbrev pub spec_texts : Spec-F (List TokenText) → List TokenText
spec_texts (Spec-F.«Type» node name limits) =
    of_type_name text_gathering name ++ list_if (of_range expr_text_lists) limits
spec_texts (Spec-F.Enumeration node values) = flat_map of_name values
spec_texts (Spec-F.Array node ranges element) =
    flat_map (of_range expr_text_lists) ranges ++ element

unfoldable pub texts_of_spec : Spec → List TokenText
texts_of_spec = fold-Spec (List TokenText) spec_texts

rolled_spec : (y : Spec-F Spec) → texts_of_spec (roll-Spec y)
    ≡ spec_texts (map-Spec Spec (List TokenText) texts_of_spec y)
unfolding texts_of_spec
rolled_spec y = fold-roll-Spec (List TokenText) spec_texts y

pub type_ : (node : Node) (name : TypeName) (limits : Option Range) →
    texts_of_spec (specs.«Type» node name limits) ≡ of_type_name text_gathering name
    ++ list_if (of_range expr_text_lists) limits
unfolding roll-Spec Carrier.roll
type_ node name limits = rolled_spec (Spec-F.«Type» node name limits)

pub enumeration : (node : Node) (values : List Identifier) →
    texts_of_spec (specs.Enumeration node values) ≡ flat_map of_name values
unfolding roll-Spec Carrier.roll
enumeration node values = rolled_spec (Spec-F.Enumeration node values)

pub array : (node : Node) (ranges : List Range) (element : Spec) →
    texts_of_spec (specs.Array node ranges element) ≡ flat_map (of_range expr_text_lists) ranges
    ++ texts_of_spec element
unfolding roll-Spec Carrier.roll
array node ranges element = rolled_spec (Spec-F.Array node ranges element)

-- initial values, with the list of its texts in the place of each part that is again one
abbrev pub init_texts : Init-F (List TokenText) (List TokenText) (List TokenText) → List TokenText
init_texts (Init-F.Value v) = texts_of_expr v
init_texts (Init-F.Array node xs) = joined xs
init_texts (Init-F.Structure node xs) = joined xs

abbrev pub item_texts : Item-F (List TokenText) (List TokenText) (List TokenText) → List TokenText
item_texts (Item-F.One v) = v
item_texts (Item-F.Repeated node count v) = (k.Number, count) ∷ v

abbrev pub field_texts : FieldInit-F (List TokenText) (List TokenText) (List TokenText) →
    List TokenText
field_texts x = of_name x.name ++ x.value

unfoldable pub texts_of_init : Init → List TokenText
texts_of_init =
    fold-Init (List TokenText) (List TokenText) (List TokenText) init_texts item_texts field_texts

unfoldable pub texts_of_item : Item → List TokenText
texts_of_item =
    fold-Item (List TokenText) (List TokenText) (List TokenText) init_texts item_texts field_texts

unfoldable pub texts_of_field : FieldInit → List TokenText
texts_of_field =
    fold-FieldInit (List TokenText) (List TokenText) (List TokenText) init_texts item_texts
    field_texts

rolled_init : (y : Init-F Init Item FieldInit) → texts_of_init (roll-Init y)
    ≡ init_texts (map-Init Init Item FieldInit (List TokenText) (List TokenText) (List TokenText)
    texts_of_init texts_of_item texts_of_field y)
unfolding texts_of_init texts_of_item texts_of_field
rolled_init y =
    fold-roll-Init (List TokenText) (List TokenText) (List TokenText) init_texts item_texts
    field_texts y

rolled_item : (y : Item-F Init Item FieldInit) → texts_of_item (roll-Item y)
    ≡ item_texts (map-Item Init Item FieldInit (List TokenText) (List TokenText) (List TokenText)
    texts_of_init texts_of_item texts_of_field y)
unfolding texts_of_init texts_of_item texts_of_field
rolled_item y =
    fold-roll-Item (List TokenText) (List TokenText) (List TokenText) init_texts item_texts
    field_texts y

pub rolled_field : (y : FieldInit-F Init Item FieldInit) →
    texts_of_field (record { node = y.node; name = y.name; value = y.value })
    ≡ field_texts (map-FieldInit Init Item FieldInit (List TokenText) (List TokenText)
    (List TokenText) texts_of_init texts_of_item texts_of_field y)
unfolding texts_of_init texts_of_item texts_of_field
rolled_field y =
    ap texts_of_field (sym (rolls-FieldInit' y)) ∙ fold-roll-FieldInit (List TokenText)
    (List TokenText) (List TokenText) init_texts item_texts field_texts y

pub plain_value : (v : Expr) → texts_of_init (inits.Value v) ≡ texts_of_expr v
unfolding roll-Init Carrier.roll
plain_value v = rolled_init (Init-F.Value v)

pub elements : (node : Node) (xs : List Item) → texts_of_init (inits.Array node xs)
    ≡ flat_map texts_of_item xs
unfolding roll-Init Carrier.roll
elements node xs = rolled_init (Init-F.Array node xs) ∙ joins texts_of_item xs

pub structure : (node : Node) (xs : List FieldInit) → texts_of_init (inits.Structure node xs)
    ≡ flat_map texts_of_field xs
unfolding roll-Init Carrier.roll
structure node xs = rolled_init (Init-F.Structure node xs) ∙ joins texts_of_field xs

pub one_item : (v : Init) → texts_of_item (items.One v) ≡ texts_of_init v
unfolding roll-Item Carrier.roll
one_item v = rolled_item (Item-F.One v)

pub repeated : (node : Node) (count : List ℕ) (v : Init) →
    texts_of_item (items.Repeated node count v) ≡ (k.Number, count) ∷ texts_of_init v
unfolding roll-Item Carrier.roll
repeated node count v = rolled_item (Item-F.Repeated node count v)

abbrev pub decl_text_lists : DeclLists expr_text_lists
decl_text_lists = record {
  of_spec = texts_of_spec;
  of_init = texts_of_init;
  of_item = texts_of_item;
  of_field = texts_of_field;
  type_ = type_;
  enumeration = enumeration;
  array = array;
  value = plain_value;
  elements = elements;
  structure = structure;
  one = one_item;
  repeated = repeated;
  field = λ node name v. rolled_field (record { node = node; name = name; value = v });
}
