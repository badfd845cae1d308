use Rattle.st_lexer.proofs.Spaced.{well_from}
use Rattle.st_lexer.proofs.words.is_spaced.Goals as goal

pub byte-init : goal.byte-init
byte-init c = well_from c.args.word.now
