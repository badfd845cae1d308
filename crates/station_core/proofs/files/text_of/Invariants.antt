use Rattle.std.proofs.Common.{◌≡◌, drop}
use Rattle.station_core.specs.Answer.{text_of}
use Rattle.station_core.proofs.files.text_of.Given as goal

abbrev pub invariant-loop-file : goal.invariant-loop-file
invariant-loop-file l = text_of l.name l.files ≡ text_of l.name (drop l.file-index l.files)
