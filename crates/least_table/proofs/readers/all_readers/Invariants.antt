use Rattle.least_table.proofs.Queues.{AreFirstReaders}
use Rattle.least_table.proofs.readers.all_readers.Given as goal

abbrev pub invariant-loop-entry : goal.invariant-loop-entry
invariant-loop-entry g l = AreFirstReaders (g.S.System.meaning l.sys) l.readers.items l.entry
