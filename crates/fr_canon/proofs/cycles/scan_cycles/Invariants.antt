use Rattle.std.proofs.Common.{◌≡◌, ◌≤◌, take}
use Rattle.std.specs.Prelude.{fold}
use Rattle.fr_canon.specs.CycleScans.{after_byte, first_scan}
use Rattle.fr_canon.proofs.cycles.scan_cycles.Given as goal

abbrev pub invariant-loop-byte : goal.invariant-loop-byte
invariant-loop-byte l = record {
  small : l.scan.last ≤ 8;
  scanned : l.scan ≡ fold after_byte first_scan (take l.byte-index l.text);
}
