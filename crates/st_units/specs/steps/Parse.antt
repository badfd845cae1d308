-- Units and files as functions on lexemes: a step on the way from the code to the grammar.
use Rattle.std.specs.Prelude.{Bool, ◌||◌, List, [], ◌∷◌, Ok, Err}
use Rattle.token_grammar.specs.declared.token.TokenKind.{TokenKind}
use Rattle.token_grammar.specs.declared.token.TokenKind.TheVariants as k
use Rattle.token_grammar.specs.declared.fault.ParseError.TheVariants.{Grammar as Syntax}
use Rattle.token_grammar.specs.Texts.{Lexeme}
use Rattle.token_grammar.specs.steps.Parsers.{Parser, ◌>>=◌, pure, take, node, choose, repeated, sees_in}
use Rattle.st_tree.specs.declared.file.Body.{Body}
use Rattle.st_tree.specs.declared.file.Body.TheVariants as body_kind
use Rattle.st_tree.specs.declared.file.Unit.{Unit as UnitTree}
use Rattle.st_tree.specs.declared.file.UnitKind.{UnitKind}
use Rattle.st_tree.specs.declared.file.UnitKind.TheVariants as unit_kind
use Rattle.st_tree.specs.declared.file.FilePart.{FilePart}
use Rattle.st_tree.specs.declared.file.FilePart.TheVariants as part
use Rattle.st_expr.specs.steps.Parse.{identifier}
use Rattle.st_statements.specs.steps.Parse.{statements}
use Rattle.sfc_text.specs.steps.Parse.{sfc}
use Rattle.st_declarations.specs.steps.Parse.{more, typename, sections, types, globals, config}
use Rattle.st_units.specs.Trees.{make_unit}

-- body = sfc | statements
unfoldable pub chart_body : Parser Body
chart_body = sfc >>= λ chart. pure (body_kind.Chart chart)

unfoldable pub statements_body : Parser Body
statements_body = statements >>= λ found. pure (body_kind.Statements found)

unfoldable pub body : Parser Body
body = choose (sees_in k.InitialStep) chart_body statements_body

-- function = FUNCTION name ":" typename { section } body END_FUNCTION
unfoldable pub function : Parser UnitTree
function = node make_unit (take k.Function >>= λ _. identifier >>= λ name. take k.Colon >>= λ _.
    typename >>= λ t. sections >>= λ ss. body >>= λ b. take k.EndFunction >>= λ _.
    pure (unit_kind.Function t, name, ss, b))

-- block = FUNCTION_BLOCK name { section } body END_FUNCTION_BLOCK
-- program = PROGRAM name { section } body END_PROGRAM
unfoldable pub unit_as : (begin end : TokenKind) → UnitKind → Parser UnitTree
unit_as begin end kind = node make_unit (take begin >>= λ _. identifier >>= λ name.
    sections >>= λ ss. body >>= λ b. take end >>= λ _. pure (kind, name, ss, b))

unfoldable pub block : Parser UnitTree
block = unit_as k.FunctionBlock k.EndFunctionBlock unit_kind.Block

unfoldable pub program : Parser UnitTree
program = unit_as k.Program k.EndProgram unit_kind.Program

-- types | globals | config
unfoldable pub other_part : Parser FilePart
other_part = choose (sees_in k.Type) (types >>= λ t. pure (part.Types t))
    (choose (sees_in k.VarGlobal) (globals >>= λ g. pure (part.Globals g))
    (config >>= λ c. pure (part.Config c)))

-- function | block | program | types | globals | config
unfoldable pub file_part : Parser FilePart
file_part = choose (sees_in k.Function) (function >>= λ u. pure (part.Unit u))
    (choose (sees_in k.FunctionBlock) (block >>= λ u. pure (part.Unit u))
    (choose (sees_in k.Program) (program >>= λ u. pure (part.Unit u)) other_part))

-- whether a part of a file comes next
unfoldable pub sees_file_part : List Lexeme → Bool
sees_file_part ts = sees_in k.Function ts || (sees_in k.FunctionBlock ts || (sees_in k.Program ts
    || (sees_in k.Type ts || (sees_in k.VarGlobal ts || sees_in k.Configuration ts))))

-- { function | block | program | types | globals | config }
unfoldable pub parts : Parser (List FilePart)
parts = repeated sees_file_part (more file_part) []

-- nothing is left
unfoldable pub ended_by : List Lexeme → Parser (Unit {0})
ended_by [] i = Ok (tt, i)
ended_by (t ∷ ts) i = Err (record { code = Syntax; rest = t ∷ ts })

unfoldable pub ended : Parser (Unit {0})
ended = λ i. ended_by i.rest i

-- a file, to the end of the lexemes
unfoldable pub file : Parser (List FilePart)
file = parts >>= λ found. ended >>= λ _. pure found
