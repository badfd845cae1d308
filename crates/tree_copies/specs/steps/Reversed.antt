-- Instructions in front of others, the last one first.
use Rattle.st_tree.specs.Code.{Instructions, Done, Literal, Read, Operate, Write}

abbrev pub reversed_onto : Instructions → Instructions → Instructions
reversed_onto Done behind = behind
reversed_onto (Literal number rest) behind = reversed_onto rest (Literal number behind)
reversed_onto (Read cell rest) behind = reversed_onto rest (Read cell behind)
reversed_onto (Operate operation rest) behind = reversed_onto rest (Operate operation behind)
reversed_onto (Write cell rest) behind = reversed_onto rest (Write cell behind)
