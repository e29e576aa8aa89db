-- Each edge, by computing its record.
use Rattle.std.proofs.Common.{refl}
use Rattle.art.specs.Verbs.{entered, choose}
use Rattle.art_examples.specs.Edges.{Edges}

pub shown : Edges
unfolding entered choose
shown = record {
  receiver_at_its_deadline = record { waits_on_at_4 = refl; ready_at_5 = refl; told = refl };
  sleeping = record { deadline_ends_it_first = refl; no_ticks_end_at_the_next = refl; longest_from_0 = refl; too_long_from_1 = refl };
  urgency_at_the_edge = record { equal_deadline_does_not_displace = refl; last_deadline_runs_before_task_0 = refl };
  full_mailbox = record { second_displaces_first = refl };
  last_number = record { accepted_once = refl; then_spent = refl; nothing_dropped = refl; still_received = refl };
  packed_store = record { used_units = refl; a_message_of_48_fits = refl; a_message_of_49_does_not = refl };
  slot_store = record { the_65th_is_refused = refl; and_taken_after_one_drop = refl };
  late_sender = record { received = refl; counter_is_31 = refl; sender_runs = refl; told_ok = refl };
  given_bytes = record { held_when_given = refl; brought_by_collect = refl; buffer_has_them = refl; gone_when_collected = refl };
  clock_set = record { task_0_runs_on = refl; wakes_at_the_next_tick = refl };
}
