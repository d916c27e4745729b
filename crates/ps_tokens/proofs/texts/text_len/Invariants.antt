-- The loops of text_len: how many bytes a string has up to and with its closing parenthesis.
use Rattle.std.proofs.Common.{◌≡◌, ◌≤◌, ◌+◌, drop, false}
use Rattle.ps_tokens.specs.Texts.{text_end}
use Rattle.ps_tokens.proofs.texts.text_len.Given as goal

-- what is left ends the string where the whole does
abbrev pub invariant-loop-i : goal.invariant-loop-i
invariant-loop-i l = record {
  same : text_end l.escaped l.depth (l.i + 1) (drop l.i l.bytes) ≡ text_end false 0 1 l.bytes;
  few : l.depth ≤ l.i;
}
