-- What an expression is, or its faults. Source: IEC 61131-3, expressions of the ST language; this
-- profile on literals without a type and on which faults stand.
use Rattle.std.specs.Prelude.{ℕ, Bool, true, List}
use Rattle.iec_tables.specs.declared.elem.Elem.{Elem}
use Rattle.iec_tables.specs.declared.elem.Elem.TheVariants as elem
use Rattle.st_tree.specs.declared.node.Node.{Node}
use Rattle.st_tree.specs.declared.code.Number.{Number}
use Rattle.st_tree.specs.declared.expression.Identifier.{Identifier}
use Rattle.st_tree.specs.declared.expression.Expr.{Expr, fold-Expr}
use Rattle.st_tree.specs.declared.expression.Expr.TheOpen.{Expr-F}
use Rattle.st_tree.specs.declared.expression.Part.{Part, fold-Part}
use Rattle.st_tree.specs.declared.expression.Argument.{Argument, fold-Argument}
use Rattle.st_tree.specs.declared.expression.Path.{Path, fold-Path}
use Rattle.link_faults.specs.Checked.{Checked, Good, bind, unusable}
use Rattle.expression_types.specs.Calls.{call_of}
use Rattle.expression_types.specs.Meanings.{Meanings}
use Rattle.expression_types.specs.Rules.{plain, known, typed_literal, number_literal, fits_number, truth_number, known_number, value_of_type}
use Rattle.expression_types.specs.declared.judged.ExprType.TheVariants as ty
use Rattle.expression_types.specs.declared.judged.Judged.{Judged}
use Rattle.expression_types.specs.declared.judged.Place.{Place}
use Rattle.expression_types.specs.declared.judged.Standing.{Standing}
use Rattle.expression_types.specs.Reads.{Read, ReadPart, ReadArgument, ReadPath, placed_read, settled_unary, settled_binary, holds_both, unary, binary, part_in, argument_in, path_in}

abbrev pub called : Meanings → Standing → Node → Identifier → List ReadArgument → Checked Judged
called m c node name arguments = call_of m c node (m.parts.callee name.name) arguments

-- ---- expressions, with what is read of each part in its place

abbrev pub Layer : Type 0
Layer = Expr-F Read ReadPart ReadArgument ReadPath

abbrev pub node_in : Layer → Node
node_in (Expr-F.Parenthesized node inner) = inner.node
node_in (Expr-F.Path path) = path.node
node_in (Expr-F.Number node negative text) = node
node_in (Expr-F.Typed node text) = node
node_in (Expr-F.Time node text) = node
node_in (Expr-F.Truth node truth) = node
node_in (Expr-F.Value node name value_name) = node
node_in (Expr-F.Unary node op x) = node
node_in (Expr-F.Binary node op l r) = node
node_in (Expr-F.Call node name arguments) = node

abbrev pub holds_in : Meanings → Layer → Elem → Bool
holds_in m (Expr-F.Number node negative text) t = fits_number (m.names.literal negative text) t
holds_in m (Expr-F.Parenthesized node inner) t = inner.holds t
holds_in m (Expr-F.Unary node op x) t = x.holds t
holds_in m (Expr-F.Binary node op l r) t = holds_both l r t
holds_in m (Expr-F.Path path) t = true
holds_in m (Expr-F.Typed node text) t = true
holds_in m (Expr-F.Time node text) t = true
holds_in m (Expr-F.Truth node truth) t = true
holds_in m (Expr-F.Value node name value_name) t = true
holds_in m (Expr-F.Call node name arguments) t = true

-- Only numbers, and arithmetic on them, are ever without a type.
abbrev pub settled_in : Meanings → Standing → Layer → Elem → Checked Judged
settled_in m c (Expr-F.Number node negative text) t = number_literal c node (m.names.literal negative text) t
settled_in m c (Expr-F.Parenthesized node inner) t = inner.settled t
settled_in m c (Expr-F.Unary node op x) t = settled_unary c node x t
settled_in m c (Expr-F.Binary node op l r) t = settled_binary c node op l r t
settled_in m c (Expr-F.Path path) t = unusable
settled_in m c (Expr-F.Typed node text) t = unusable
settled_in m c (Expr-F.Time node text) t = unusable
settled_in m c (Expr-F.Truth node truth) t = unusable
settled_in m c (Expr-F.Value node name value_name) t = unusable
settled_in m c (Expr-F.Call node name arguments) t = unusable

abbrev pub judged_in : Meanings → Standing → Layer → Checked Judged
judged_in m c (Expr-F.Number node negative text) = Good (plain ty.Loose)
judged_in m c (Expr-F.Typed node text) = typed_literal c node (m.names.typed_literal text)
judged_in m c (Expr-F.Time node text) = number_literal c node (m.names.time text) elem.Time
judged_in m c (Expr-F.Truth node truth) =
    Good (known (ty.Elem elem.Bool) (record { value = truth_number truth }))
judged_in m c (Expr-F.Path path) = path.judged
judged_in m c (Expr-F.Value node name value_name) =
    value_of_type c node name.node value_name.node (m.names.type_value name.name value_name.name)
judged_in m c (Expr-F.Parenthesized node inner) = inner.judged
judged_in m c (Expr-F.Unary node op x) = unary c node op x
judged_in m c (Expr-F.Binary node op l r) = binary m c node op l r
judged_in m c (Expr-F.Call node name arguments) = called m c node name arguments

abbrev pub read_in : Meanings → Standing → Layer → Read
read_in m c x =
    record {
      node = node_in x;
      holds = holds_in m x;
      settled = settled_in m c x;
      judged = judged_in m c x;
    }

unfoldable pub read : Meanings → Standing → Expr → Read
read m c =
    fold-Expr Read ReadPart ReadArgument ReadPath (read_in m c) (part_in m c) argument_in (path_in m c)

unfoldable pub read_part : Meanings → Standing → Part → ReadPart
read_part m c =
    fold-Part Read ReadPart ReadArgument ReadPath (read_in m c) (part_in m c) argument_in (path_in m c)

unfoldable pub read_argument : Meanings → Standing → Argument → ReadArgument
read_argument m c =
    fold-Argument Read ReadPart ReadArgument ReadPath (read_in m c) (part_in m c) argument_in (path_in m c)

unfoldable pub read_path : Meanings → Standing → Path → ReadPath
read_path m c =
    fold-Path Read ReadPart ReadArgument ReadPath (read_in m c) (part_in m c) argument_in (path_in m c)

-- an expression at its place
abbrev pub placed : Meanings → Standing → Place → Expr → Checked Judged
placed m c p e = placed_read m c p (read m c e)

-- ---- constants

-- where an expression must be constant
abbrev pub must_be_constant : ℕ → Standing
must_be_constant file = record { file = file; constant = true }

abbrev pub number_of : Standing → Read → Judged → Checked Number
number_of c x j = known_number c x.node j.number

abbrev pub constant_placed : Meanings → Standing → Place → Expr → Checked Number
constant_placed m c p e = bind (placed m c p e) (number_of c (read m c e))

-- the number of an expression that must be constant
abbrev pub constant_number : Meanings → ℕ → Place → Expr → Checked Number
constant_number m file p e = constant_placed m (must_be_constant file) p e
