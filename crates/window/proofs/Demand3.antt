-- Demand 3 holds of every window, whatever its numbers: each sentence is a law of the gate.
use Rattle.window.specs.Window.{Window, stats_of}
use Rattle.window.specs.Demand3.{Demand3}
use Rattle.window.proofs.Least.{never_less, nearest, reached, gate_is_least}
use Rattle.window.proofs.Zero.{gate_zero}
use Rattle.window.proofs.Mirrors.{across_same, down_same, turned_same, turned_back_same, negative_same, added_same}

pub demand3 : (p : Window) → Demand3 p
unfolding stats_of
demand3 p =
    record {
      least = gate_is_least p;
      at_least = λ D h s. never_less p D s;
      equality = (nearest p, reached p);
      zero = gate_zero p;
      mirrored_across = across_same p;
      mirrored_down = down_same p;
      quarter_turn = turned_same p;
      quarter_turn_back = turned_back_same p;
      made_negative = negative_same p;
      surface_added = λ s. added_same s p;
    }
