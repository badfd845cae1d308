-- The grammar of units and files. Source: the textual grammar of IEC 61131-3:2013, narrowed to this
-- profile. The code descends by a look at the next token.
use Rattle.std.specs.Prelude.{List}
use Rattle.token_grammar.specs.declared.token.TokenKind.{TokenKind}
use Rattle.token_grammar.specs.declared.token.TokenKind.TheVariants as k
use Rattle.token_grammar.specs.Grammar.{Rule, ◌>>=◌, ◌or◌, give, token, node}
use Rattle.st_tree.specs.declared.file.Body.{Body}
use Rattle.st_tree.specs.declared.file.Body.TheVariants as body_kind
use Rattle.st_tree.specs.declared.file.Unit.{Unit as UnitTree}
use Rattle.st_tree.specs.declared.file.UnitKind.{UnitKind}
use Rattle.st_tree.specs.declared.file.UnitKind.TheVariants as unit_kind
use Rattle.st_tree.specs.declared.file.FilePart.{FilePart}
use Rattle.st_tree.specs.declared.file.FilePart.TheVariants as part
use Rattle.st_expr.specs.Grammar.{identifier}
use Rattle.st_statements.specs.Grammar.{statements}
use Rattle.sfc_text.specs.Grammar.{sfc}
use Rattle.st_declarations.specs.Grammar.{each, typename, sections, types, globals, config}
use Rattle.st_units.specs.Trees.{make_unit}

-- body = sfc | statements
abbrev pub body : Rule Body
body = (sfc >>= λ chart. give (body_kind.Chart chart))
    or (statements >>= λ found. give (body_kind.Statements found))

-- function = FUNCTION name ":" typename { section } body END_FUNCTION
abbrev pub function : Rule UnitTree
function = node make_unit (token k.Function >>= λ _. identifier >>= λ name. token k.Colon >>= λ _.
    typename >>= λ t. sections >>= λ ss. body >>= λ b. token k.EndFunction >>= λ _.
    give (unit_kind.Function t, name, ss, b))

-- block = FUNCTION_BLOCK name { section } body END_FUNCTION_BLOCK
-- program = PROGRAM name { section } body END_PROGRAM
abbrev pub unit_as : (begin end : TokenKind) → UnitKind → Rule UnitTree
unit_as begin end kind = node make_unit (token begin >>= λ _. identifier >>= λ name.
    sections >>= λ ss. body >>= λ b. token end >>= λ _. give (kind, name, ss, b))

abbrev pub block : Rule UnitTree
block = unit_as k.FunctionBlock k.EndFunctionBlock unit_kind.Block

abbrev pub program : Rule UnitTree
program = unit_as k.Program k.EndProgram unit_kind.Program

-- function | block | program | types | globals | config
abbrev pub file_part : Rule FilePart
file_part = (function >>= λ u. give (part.Unit u))
    or ((block >>= λ u. give (part.Unit u))
    or ((program >>= λ u. give (part.Unit u))
    or ((types >>= λ t. give (part.Types t))
    or ((globals >>= λ g. give (part.Globals g))
    or (config >>= λ c. give (part.Config c))))))

-- file = { function | block | program | types | globals | config }
abbrev pub file : Rule (List FilePart)
file = each file_part
