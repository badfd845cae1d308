use Rattle.std.proofs.Common.{◌≡◌, ◌++◌, drop, map}
use Rattle.station_core.proofs.files.names_of.Given as goal

abbrev pub invariant-loop-file : goal.invariant-loop-file
invariant-loop-file l = l.names ++ map (λ file. file.name) (drop l.file-index l.files) ≡ map (λ file. file.name) l.files
