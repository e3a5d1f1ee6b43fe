-- One statement a turn: those before have what the offer makes of their cells, and the others are as they were.
use Rattle.assembly_copies.proofs.Turns.{Turned}
use Rattle.assembly_copies.proofs.offer.Given as goal

abbrev pub invariant-loop-m : goal.invariant-loop-m
invariant-loop-m l = Turned l.roster l.items l.wanted l.sought l.item l.initial.rows l.rows l.m
