-- What a packed store holds.
use Rattle.store.specs.Meaning.{Contents}
use Rattle.packed_store.specs.Layout.{held_in}
use Rattle.packed_store.specs.declared.arena.PackedStore.{PackedStore}

-- the bytes under each number, as they lie in its memory
abbrev pub contents : PackedStore → Contents
contents s = held_in s.memory s.used
