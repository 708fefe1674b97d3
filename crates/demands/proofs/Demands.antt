-- The three demands hold: each field is one of the theorems.
use mathlib.Core.Path.{refl}
use Rattle.packets.proofs.Readings.{reading, one_log}
use Rattle.protocol.specs.Calls.{start_call}
use Rattle.demands.specs.Demands.{Demand1, Demand2, Demand3}
use Rattle.demands.proofs.Demand1.{start_exact, call_exact, start_fits}
use Rattle.demands.proofs.Answered.{each_answered}
use Rattle.demands.proofs.Demand2.{full_effect, nothing_else, protected_kept}
use Rattle.demands.proofs.Table.{demand_2_table}
use Rattle.demands.proofs.Exists.{calls_exist}
use Rattle.demands.proofs.Covers.{covers}
use Rattle.demands.proofs.OneByOne.{one_by_one}
use Rattle.demands.proofs.Settled.{calls_settle}
use Rattle.demands.proofs.Resumes.{resumes}
use Rattle.demands.proofs.Demand3.{opens_exactly, unchanged_until, unseen}
use Rattle.demands.proofs.Fed.{fed_the_same}

pub demand_1 : Demand1
demand_1 =
    record {
      start_answers = λ img inputs. (start_call img inputs, refl);
      calls_answer = λ u img cs y. calls_exist u img cs y;
      start = start_exact;
      call = call_exact;
    }

pub demand_2 : Demand2
demand_2 =
    record {
      starts = start_fits;
      table = demand_2_table;
      covers = covers;
      resumes = resumes;
      calls = each_answered;
      one_by_one = one_by_one;
      settles = calls_settle;
      full_effect = full_effect;
      nothing_else = λ f between c. nothing_else f c between;
      protected_kept = protected_kept;
    }

pub demand_3 : Demand3
demand_3 =
    record {
      opens = opens_exactly;
      reads = λ id bs long y. reading id bs long y;
      one_reading = one_log;
      unchanged = unchanged_until;
      fed_the_same = fed_the_same;
      unseen = unseen;
    }
