-- What the store holds.
use Rattle.store.specs.Meaning.{Contents}
use Rattle.store.specs.Listing.{lookup}
use Rattle.slot_store.specs.declared.table.SlotStore.{SlotStore}
use Rattle.slot_store.specs.Slots.{messages}

-- the bytes held under each number, or nothing
abbrev pub contents : SlotStore → Contents
contents s = lookup (messages s.slots)
