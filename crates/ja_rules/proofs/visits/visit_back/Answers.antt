use Rattle.std.proofs.Common.{map, subst}
use Rattle.ja_transfer.specs.Outcomes.{given_by}
use Rattle.ja_table.specs.Tables.{table_of}
use Rattle.ja_rules.specs.code.Exits.{IsGivenBack}
use Rattle.ja_rules.proofs.Lent.{back_nodes, edge_fits}
use Rattle.ja_table.proofs.SameMeaning.{keys_both, keys_same}
use Rattle.ja_rules.proofs.Steps.{back_demands, back_done, back_none}
use Rattle.ja_rules.proofs.Visiting.{states_reached}
use Rattle.ja_rules.proofs.visits.visit_back.Goals as goal

pub returns-in_err-states-clause-kept : goal.returns-in_err-states-clause-kept
returns-in_err-states-clause-kept c = keys_same c.args.table.now

pub returns-in_default-clause-visited : goal.returns-in_default-clause-visited
returns-in_default-clause-visited c =
    let p = c.args.program.now in
    let t = table_of c.args.table.now in
    let e = c.args.edge in
    back_none p c.requires.program t e
    (subst (IsGivenBack p t e) c.in_default.is c.in_ok-states.ensures)

pub returns-in_default-clause-kept : goal.returns-in_default-clause-kept
returns-in_default-clause-kept c = keys_same c.args.table.now

pub join_states-requires-clause-context : goal.join_states-requires-clause-context
join_states-requires-clause-context c =
    (edge_fits c.args.program.now c.args.table.now c.args.edge c.requires.fits
    c.requires.item).caller

pub join_states-requires-clause-nodes : goal.join_states-requires-clause-nodes
join_states-requires-clause-nodes c =
    let p = c.args.program.now in
    let t = table_of c.args.table.now in
    let e = c.args.edge in
    back_nodes p c.requires.program t e c.in-Some.field-0
    (subst (IsGivenBack p t e) c.in-Some.is c.in_ok-states.ensures)

pub join_states-requires-clause-states : goal.join_states-requires-clause-states
join_states-requires-clause-states c =
    let p = c.args.program.now in
    let t = table_of c.args.table.now in
    let e = c.args.edge in
    let h = subst (IsGivenBack p t e) c.in-Some.is c.in_ok-states.ensures in
    h.6

pub returns-in_err-is_joined-clause-kept : goal.returns-in_err-is_joined-clause-kept
returns-in_err-is_joined-clause-kept c = c.join_states.ensures.kept

pub demand_at-requires-clause-ordered : goal.demand_at-requires-clause-ordered
demand_at-requires-clause-ordered c = c.in_ok-is_joined.ensures.fits.ordered

pub demand_at-requires-clause-context : goal.demand_at-requires-clause-context
demand_at-requires-clause-context c =
    states_reached (table_of c.args.table.now) (table_of c.join_states.new.table)
    c.args.edge.caller c.args.edge.caller
    (map given_by c.in-Some.field-0.states.list.items) c.in_ok-is_joined.ensures.joined
    (edge_fits c.args.program.now c.args.table.now c.args.edge c.requires.fits
    c.requires.item).caller

pub returns-in_err-is_demanded-clause-kept : goal.returns-in_err-is_demanded-clause-kept
returns-in_err-is_demanded-clause-kept c =
    keys_both c.args.table.now c.join_states.new.table c.demand_at.new.table c.join_states.ensures.kept
    c.demand_at.ensures.kept

pub returns-clause-visited : goal.returns-clause-visited
returns-clause-visited c =
    let p = c.args.program.now in
    let t = table_of c.args.table.now in
    let e = c.args.edge in
    let h = subst (IsGivenBack p t e) c.in-Some.is c.in_ok-states.ensures in
    back_done p c.requires.program t e (table_of c.join_states.new.table)
    (table_of c.demand_at.new.table) c.in-Some.field-0 c.in_ok-is_joined.is_joined
    c.in_ok-is_demanded.is_demanded h c.in_ok-is_joined.ensures.joined
    c.in_ok-is_joined.ensures.changed c.in_ok-is_joined.ensures.same
    c.in_ok-is_demanded.ensures.demanded c.in_ok-is_demanded.ensures.changed
    c.in_ok-is_demanded.ensures.same

pub returns-clause-kept : goal.returns-clause-kept
returns-clause-kept c =
    keys_both c.args.table.now c.join_states.new.table c.demand_at.new.table c.join_states.ensures.kept
    c.demand_at.ensures.kept

pub returns-clause-fits : goal.returns-clause-fits
returns-clause-fits c =
    let p = c.args.program.now in
    let t = table_of c.args.table.now in
    let e = c.args.edge in
    let h = subst (IsGivenBack p t e) c.in-Some.is c.in_ok-states.ensures in
    c.in_ok-is_demanded.ensures.fits p
    (back_demands p c.requires.program t e c.in-Some.field-0 h) c.in_ok-is_joined.ensures.fits
