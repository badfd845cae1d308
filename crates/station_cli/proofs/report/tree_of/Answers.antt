use Rattle.std.proofs.Common.{◌≡◌, ℕ, ◌≤◌, List, length, inl, inr, sym, subst}
use Rattle.iec_tables.specs.declared.fault.FaultCode.{FaultCode}
use Rattle.st_lexer.specs.Cut.{IsCut, IsFault}
use Rattle.st_lexer.specs.declared.cut.LexFault.{LexFault}
use Rattle.st_lexer.specs.declared.cut.LexFault.TheVariants as lex
use Rattle.st_units.specs.Files.{IsFileFault}
use Rattle.st_units.specs.SourceTrees.{IsFaultOf, IsRefused}
use Rattle.st_units.specs.declared.fault.ParseFault.{ParseFault}
use Rattle.st_units.specs.declared.fault.ParseFault.TheVariants.{At, Lex}
use Rattle.station_cli.proofs.report.tree_of.Goals as goal

-- a fault of an equal code at an equal place
equal : (text : List ℕ) (c d : FaultCode) (m n : ℕ) → c ≡ d → m ≡ n → IsFaultOf text d n
    → n ≤ length text → IsFaultOf text c m × (m ≤ length text)
equal text c d m n e f fault within = (
  subst (λ (k : ℕ). IsFaultOf text c k) (sym f)
      (subst (λ (k : FaultCode). IsFaultOf text k n) (sym e) fault),
  subst (λ (k : ℕ). k ≤ length text) (sym f) within,
)

pub returns-in-Err-At : goal.returns-in-Err-At
returns-in-Err-At g c =
    let text = c.args.text.now in
    let bytes = c.bytes.result.now in
    let code = c.in-Err-At.code in
    let at = c.in-Err-At.at in
    let before = c.args.steps.now.parsed in
    let after = c.parse_file.new.steps.parsed in
    let refused : IsRefused bytes before after (At code at) =
    subst (IsRefused bytes before after) c.in-Err-At.field-0-is c.in-Err-At.ensures.answers in
    let tokens = refused.0 in
    let cut : IsCut text tokens =
    subst (λ (b : List ℕ). IsCut b tokens) c.bytes.ensures.value refused.1 in
    let fault : IsFileFault text tokens code at =
    subst (λ (b : List ℕ). IsFileFault b tokens code at) c.bytes.ensures.value refused.2 in
    equal text _ code _ at c.in-Err-At.code-is c.in-Err-At.at-is (inl (tokens, cut, fault))
    (c.file_laws.ensures.fault_in text tokens code at (c.cut_laws.ensures.tokens_in text tokens cut) fault)

pub returns-in-Err-Lex-At : goal.returns-in-Err-Lex-At
returns-in-Err-Lex-At g c =
    let text = c.args.text.now in
    let bytes = c.bytes.result.now in
    let code = c.in-Err-Lex-At.code in
    let at = c.in-Err-Lex-At.at in
    let before = c.args.steps.now.parsed in
    let after = c.parse_file.new.steps.parsed in
    let of_lex : IsRefused bytes before after (Lex c.in-Err-Lex-At.field-0-0) =
    subst (IsRefused bytes before after) c.in-Err-Lex-At.field-0-is c.in-Err-Lex-At.ensures.answers in
    let found : c.in-Err-Lex-At.field-0-0 ≡ lex.At code at =
    rw c.in-Err-Lex-At.field-0-is at c.in-Err-Lex-At.field-0-0-is in
    let refused : IsRefused bytes before after (Lex (lex.At code at)) =
    subst (λ (f : LexFault). IsRefused bytes before after (Lex f)) found of_lex in
    let fault : IsFault text code at =
    subst (λ (b : List ℕ). IsFault b code at) c.bytes.ensures.value refused.0 in
    equal text _ code _ at c.in-Err-Lex-At.code-is c.in-Err-Lex-At.at-is (inr fault)
    (c.cut_laws.ensures.fault_in text code at fault)
