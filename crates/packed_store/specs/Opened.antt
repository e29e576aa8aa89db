-- A store's memory is sound, by its ghost fields.
use Rattle.packed_store.specs.Inside.{Sound}
use Rattle.packed_store.specs.declared.arena.PackedStore.{PackedStore}

pub opened : (s : PackedStore) → Sound s.memory s.used
opened s = record { whole = s.whole; room = s.room; packs = s.packs; good = s.good; once = s.once }
