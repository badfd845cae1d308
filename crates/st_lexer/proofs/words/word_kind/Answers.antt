use Rattle.std.proofs.Common.{map, ◌∙◌, sym, ap}
use Rattle.iec_tables.specs.Letters.{raised}
use Rattle.st_lexer.specs.Front.{word_kind, kind_or_name}
use Rattle.st_lexer.proofs.Keywords.{kind_found, kind_missing, kind_past}
use Rattle.st_lexer.proofs.words.word_kind.Goals as goal

pub returns-in-Some-kind_at : goal.returns-in-Some-kind_at
unfolding word_kind
returns-in-Some-kind_at c = ap kind_or_name (sym (kind_found c.keywords.result (map raised c.args.word.now) _ _ c.keywords.ensures.texts c.keywords.ensures.numbers c.in-Some.ensures (sym c.kind_at.ensures ∙ c.in-Some-kind_at.is)))

pub returns-in-None-kind_at : goal.returns-in-None-kind_at
unfolding word_kind
returns-in-None-kind_at c = absurd (kind_past c.keywords.result (map raised c.args.word.now) c.in-Some.number c.keywords.ensures.numbers c.in-Some.ensures (sym c.kind_at.ensures ∙ c.in-None-kind_at.is))

pub returns-in-None : goal.returns-in-None
unfolding word_kind
returns-in-None c = ap kind_or_name (sym (kind_missing c.keywords.result (map raised c.args.word.now) c.keywords.ensures.texts c.in-None.ensures))
