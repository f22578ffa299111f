-- Cases of the binding table: equality, what single calls tell and leave, what sequences leave, and what they count. What the definitions say stands
-- on one side, and literals on the other (`Case`).
use Rattle.std.specs.Prelude.{ℕ, List, [], ◌∷◌, ◌++◌, map, take, drop, Ok, Err}
use Rattle.zigbee_types.specs.Bytes.{bit}
use Rattle.zigbee_types.specs.Outcome.{Outcome, answer, refusal, mapped}
use Rattle.zigbee_types.specs.Addresses.{ieee_of, group_of}
use Rattle.zigbee_types.specs.declared.Refusal.TheVariants.{BadTables}
use Rattle.aps_binding.specs.Entry.{group_binding, device_binding, zero_binding, key, same, formed}
use Rattle.aps_binding_table.specs.Held.{Step}
use Rattle.aps_binding_table.specs.Table.{empty_table, create_binding_link, remove_binding_link, table_left}
use Rattle.aps_binding_table.specs.Answers.{link_says}
use Rattle.aps_binding.specs.declared.binding.Binding.{Binding}
use Rattle.aps_binding_table.specs.declared.binding.BindingTable.{BindingTable}
use Rattle.aps_binding_table.specs.declared.binding.BindingError.TheVariants.{InvalidBinding, TableFull, Refused}
use Rattle.demands.specs.Calls.{Call, bind, unbind, next, after}
use Rattle.demands.specs.Runs.{how_many}
use Rattle.demands.specs.History.{adds, removes}
use Rattle.lines.specs.Chunks.{joined}
use Rattle.demands.specs.Cases.{Case, counting}

-- ---- entries

-- a device binding is the same as itself, and as none that differs in its endpoint, cluster, address or the endpoint there; a group
-- binding is not the same as one of another group; nor are a group and a device binding that differ in the mode alone
unfoldable pub Equality : Case
Equality =
    record {
      says =
          answer
          (map (λ b. bit (same (device_binding 1 0x0402 (ieee_of 9) 2) b))
          (device_binding 1 0x0402 (ieee_of 9) 2
          ∷ device_binding 2 0x0402 (ieee_of 9) 2
          ∷ device_binding 1 0x0403 (ieee_of 9) 2
          ∷ device_binding 1 0x0402 (ieee_of 10) 2
          ∷ device_binding 1 0x0402 (ieee_of 9) 3
          ∷ []))
          ∷ answer
          (bit (same (group_binding 1 0x0402 (group_of 3)) (group_binding 1 0x0402 (group_of 4)))
          ∷ bit (same (group_binding 1 0x0402 (group_of 0)) (device_binding 1 0x0402 (ieee_of 0) 0))
          ∷ [])
          ∷ [];
      expected = answer (1 ∷ 0 ∷ 0 ∷ 0 ∷ 0 ∷ []) ∷ answer (0 ∷ 0 ∷ []) ∷ [];
    }

-- an entry with a mode, a group, an address and an endpoint there
abbrev pub entry_of : ℕ → ℕ → ℕ → ℕ → Binding
entry_of mode group address to =
    record { dst_ieee = ieee_of address; cluster_id = 0x0402; src_endpoint = 1; dst_addr_mode = mode; dst_group = group_of group; dst_endpoint = to }

-- a group and a device are formed; a group with an address, or with an endpoint there, a device with a group, and mode 2 are not
unfoldable pub Formed : Case
Formed =
    record {
      says =
          answer
          (map (λ b. bit (formed b))
          (entry_of 1 3 0 0 ∷ entry_of 3 0 9 2 ∷ entry_of 1 3 9 0 ∷ entry_of 1 3 0 2 ∷ entry_of 3 3 9 2 ∷ entry_of 2 0 0 0 ∷ []))
          ∷ [];
      expected = answer (1 ∷ 1 ∷ 0 ∷ 0 ∷ 0 ∷ 0 ∷ []) ∷ [];
    }

-- ---- single calls

-- what each answer says
unfoldable pub LinkStatuses : Case
LinkStatuses =
    record {
      says = map (λ l. mapped (λ n. n ∷ []) (link_says l)) (Ok tt ∷ Err InvalidBinding ∷ Err TableFull ∷ Err (Refused BadTables) ∷ []);
      expected = answer (0x00 ∷ []) ∷ answer (0x88 ∷ []) ∷ answer (0x8C ∷ []) ∷ refusal 1 ∷ [];
    }

-- the status that a call tells, then the count, the limit and the key of the first entry of the table that it leaves
abbrev pub link_numbers : (BindingTable → Binding → Outcome Step) → BindingTable → Binding → Outcome (List ℕ)
link_numbers call t b =
    let u = table_left t (call t b) in
    mapped (λ s. s.status ∷ u.count ∷ u.limit ∷ joined (map key (take 1 u.entries))) (call t b)

-- A device binding is bound in a table of zeros, with room and without, and in an empty table. The group binding of zeros is bound
-- in an empty table, and refused with a limit of 33. It is unbound where it is held, and where nothing is, and refused with a count
-- above the limit: 2 and 1, and 1 and 0.
unfoldable pub Links : Case
Links =
    record {
      says =
          link_numbers create_binding_link (counting 2 1) (device_binding 1 0x0402 (ieee_of 9) 2)
          ∷ link_numbers create_binding_link (counting 1 1) (device_binding 1 0x0402 (ieee_of 9) 2)
          ∷ link_numbers create_binding_link (empty_table 1) (device_binding 1 0x0402 (ieee_of 9) 2)
          ∷ link_numbers create_binding_link (empty_table 1) zero_binding
          ∷ link_numbers create_binding_link (empty_table 33) zero_binding
          ∷ link_numbers remove_binding_link (counting 1 1) zero_binding
          ∷ link_numbers remove_binding_link (empty_table 1) zero_binding
          ∷ link_numbers remove_binding_link (counting 1 2) zero_binding
          ∷ link_numbers remove_binding_link (counting 0 1) zero_binding
          ∷ [];
      expected =
          answer (0x00 ∷ 2 ∷ 2 ∷ 0 ∷ 0 ∷ 0 ∷ 0 ∷ 0 ∷ 1 ∷ [])
          ∷ answer (0x8C ∷ 1 ∷ 1 ∷ 0 ∷ 0 ∷ 0 ∷ 0 ∷ 0 ∷ 1 ∷ [])
          ∷ answer (0x00 ∷ 1 ∷ 1 ∷ 0x0402 ∷ 1 ∷ 9 ∷ 2 ∷ 0 ∷ 3 ∷ [])
          ∷ answer (0x00 ∷ 1 ∷ 1 ∷ 0 ∷ 0 ∷ 0 ∷ 0 ∷ 0 ∷ 1 ∷ [])
          ∷ refusal 1
          ∷ answer (0x00 ∷ 0 ∷ 1 ∷ 0 ∷ 0 ∷ 0 ∷ 0 ∷ 0 ∷ 1 ∷ [])
          ∷ answer (0x88 ∷ 0 ∷ 1 ∷ 0 ∷ 0 ∷ 0 ∷ 0 ∷ 0 ∷ 1 ∷ [])
          ∷ refusal 1
          ∷ refusal 1
          ∷ [];
    }

-- ---- what is left

-- three entries
abbrev pub entry_a : Binding
entry_a = group_binding 1 0x0402 (group_of 3)

abbrev pub entry_b : Binding
entry_b = group_binding 1 0x0402 (group_of 4)

abbrev pub entry_c : Binding
entry_c = device_binding 1 0x0402 (ieee_of 9) 2

-- a table with a limit, a count, and these entries in its first four places
abbrev pub having : ℕ → ℕ → List Binding → BindingTable
having limit count xs = record { entries = xs ++ drop 4 (empty_table 32).entries; limit = limit; count = count }

-- the count, the limit, and the keys in the first four places
abbrev pub places : BindingTable → Outcome (List ℕ)
places t = answer (t.count ∷ t.limit ∷ joined (map key (take 4 t.entries)))

-- of A, B and C the first is unbound; a held one is bound again; one that a full table did not take is unbound. Of A, B and A the
-- first is unbound, with C in an unused place. A table whose count is above its limit, after a bind and after an unbind.
unfoldable pub LeftTables : Case
LeftTables =
    record {
      says =
          places (after (empty_table 3) (bind entry_a ∷ bind entry_b ∷ bind entry_c ∷ unbind entry_a ∷ []))
          ∷ places (after (empty_table 3) (bind entry_a ∷ bind entry_b ∷ bind entry_c ∷ bind entry_b ∷ []))
          ∷ places (after (empty_table 2) (bind entry_a ∷ bind entry_b ∷ bind entry_c ∷ unbind entry_c ∷ []))
          ∷ places (next (having 4 3 (entry_a ∷ entry_b ∷ entry_a ∷ entry_c ∷ [])) (unbind entry_a))
          ∷ places (next (having 1 2 (entry_a ∷ entry_b ∷ entry_c ∷ entry_c ∷ [])) (bind entry_c))
          ∷ places (next (having 1 2 (entry_a ∷ entry_b ∷ entry_c ∷ entry_c ∷ [])) (unbind entry_a))
          ∷ [];
      expected =
          answer (2 ∷ 3 ∷ 0x0402 ∷ 1 ∷ 0 ∷ 0 ∷ 4 ∷ 1 ∷ 0x0402 ∷ 1 ∷ 9 ∷ 2 ∷ 0 ∷ 3 ∷ 0 ∷ 0 ∷ 0 ∷ 0 ∷ 0 ∷ 1 ∷ 0 ∷ 0 ∷ 0 ∷ 0 ∷ 0 ∷ 1 ∷ [])
          ∷ answer (3 ∷ 3 ∷ 0x0402 ∷ 1 ∷ 0 ∷ 0 ∷ 3 ∷ 1 ∷ 0x0402 ∷ 1 ∷ 0 ∷ 0 ∷ 4 ∷ 1 ∷ 0x0402 ∷ 1 ∷ 9 ∷ 2 ∷ 0 ∷ 3 ∷ 0 ∷ 0 ∷ 0 ∷ 0 ∷ 0 ∷ 1 ∷ [])
          ∷ answer (2 ∷ 2 ∷ 0x0402 ∷ 1 ∷ 0 ∷ 0 ∷ 3 ∷ 1 ∷ 0x0402 ∷ 1 ∷ 0 ∷ 0 ∷ 4 ∷ 1 ∷ 0 ∷ 0 ∷ 0 ∷ 0 ∷ 0 ∷ 1 ∷ 0 ∷ 0 ∷ 0 ∷ 0 ∷ 0 ∷ 1 ∷ [])
          ∷ answer (2 ∷ 4 ∷ 0x0402 ∷ 1 ∷ 0 ∷ 0 ∷ 4 ∷ 1 ∷ 0x0402 ∷ 1 ∷ 0 ∷ 0 ∷ 3 ∷ 1 ∷ 0 ∷ 0 ∷ 0 ∷ 0 ∷ 0 ∷ 1 ∷ 0x0402 ∷ 1 ∷ 9 ∷ 2 ∷ 0 ∷ 3 ∷ [])
          ∷ answer (2 ∷ 1 ∷ 0x0402 ∷ 1 ∷ 0 ∷ 0 ∷ 3 ∷ 1 ∷ 0x0402 ∷ 1 ∷ 0 ∷ 0 ∷ 4 ∷ 1 ∷ 0x0402 ∷ 1 ∷ 9 ∷ 2 ∷ 0 ∷ 3 ∷ 0x0402 ∷ 1 ∷ 9 ∷ 2 ∷ 0 ∷ 3 ∷ [])
          ∷ answer (2 ∷ 1 ∷ 0x0402 ∷ 1 ∷ 0 ∷ 0 ∷ 3 ∷ 1 ∷ 0x0402 ∷ 1 ∷ 0 ∷ 0 ∷ 4 ∷ 1 ∷ 0x0402 ∷ 1 ∷ 9 ∷ 2 ∷ 0 ∷ 3 ∷ 0x0402 ∷ 1 ∷ 9 ∷ 2 ∷ 0 ∷ 3 ∷ [])
          ∷ [];
    }

-- ---- what is counted

-- the calls of K11
abbrev pub exchanged : List Call
exchanged = bind entry_a ∷ bind entry_b ∷ unbind entry_a ∷ bind entry_c ∷ unbind entry_b ∷ []

-- how many of them added and how many removed, with limits 1 and 2
unfoldable pub Counted : Case
Counted =
    record {
      says =
          answer (how_many next adds (empty_table 1) exchanged ∷ how_many next removes (empty_table 1) exchanged ∷ [])
          ∷ answer (how_many next adds (empty_table 2) exchanged ∷ how_many next removes (empty_table 2) exchanged ∷ [])
          ∷ [];
      expected = answer (2 ∷ 1 ∷ []) ∷ answer (3 ∷ 2 ∷ []) ∷ [];
    }
