-- text_len: how many bytes a string has up to and with its closing parenthesis.
use Rattle.std.proofs.Common.{arith}
use Rattle.std.proofs.lemmas.Bool.Decides.{nat_tests}
use Rattle.ps_tokens.proofs.Prefixes.{text_end-drop}
use Rattle.ps_tokens.proofs.texts.text_len.Goals as goal
use Rattle.ps_tokens.proofs.texts.text_len.Goals.{then-escaped, else-escaped+then-b-eq92, else-escaped+else-b-eq92+then-b-eq40, else-escaped+else-b-eq92+else-b-eq40+then-b-eq41+else-depth-eq0, else-escaped+else-b-eq92+else-b-eq40+else-b-eq41}

pub loop-i-preserved : goal.loop-i-preserved
loop-i-preserved c =
    elim c.if-escaped.branch [
      | then-escaped w ↦ record { same = grind (arith, nat_tests, text_end-drop); few = omega arith }
      | else-escaped+then-b-eq92 w ↦ record { same = grind (arith, nat_tests, text_end-drop); few = omega arith }
      | else-escaped+else-b-eq92+then-b-eq40 w ↦ record { same = grind (arith, nat_tests, text_end-drop); few = omega arith }
      | else-escaped+else-b-eq92+else-b-eq40+then-b-eq41+else-depth-eq0 w ↦ record { same = grind (arith, nat_tests, text_end-drop); few = omega arith }
      | else-escaped+else-b-eq92+else-b-eq40+else-b-eq41 w ↦ record { same = grind (arith, nat_tests, text_end-drop); few = omega arith }
    ]
