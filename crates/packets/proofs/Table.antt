-- The table holds because each rule can be decided and each row's decision computes to yes; and no row has another reading, since no list has two.
use mathlib.Core.Bool.{decide, decide_iff}
use native.Mathlib.Decide.{ℕ_discrete}
use mathlib.Core.Logic.Dec
use mathlib.Core.Path.{refl, sym, ◌∙◌}
use mathlib.Core.List.{List, [], ◌∷◌}
use Rattle.packets.specs.Pieces.{Each}
use Rattle.packets.specs.Readings.{log_bytes}
use Rattle.packets.specs.Counts.{wrong_checks}
use Rattle.packets.specs.Table.{ids, Row, Holds, Only, table}
use Rattle.packets.proofs.Decisions.{list?, each?, regrouped, reads?}
use Rattle.packets.proofs.Readings.{one_reading}

holds? : (row : Row) → Dec (Holds row)
unfolding Dec.and regrouped ℕ_discrete list? reads?
holds? row =
    regrouped (λ h. (h.0, h.1.0, h.1.1)) (λ h. (h.0, (h.1, h.2)))
    (Dec.and (reads? ids row.log) (Dec.and (list? row.bytes (log_bytes ids row.log)) (ℕ_discrete (wrong_checks row.log) row.wrong)))

pub table_holds : Each Holds table
unfolding table each? holds? decide
table_holds = (decide_iff (each? holds? table)).0 refl

only : (row : Row) → Holds row → Only row
only row h r = one_reading ids refl r.log row.log r.reads h.0 (sym r.whole ∙ h.1)

each_only : (rows : List Row) → Each Holds rows → Each Only rows
each_only [] h = tt
each_only (row ∷ rows) h = (only row h.0, each_only rows h.1)

pub table_only : Each Only table
table_only = each_only table table_holds
