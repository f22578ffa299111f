-- Matching (document 01, "Matching"; 2.4.4.2.7): which endpoints a match request finds.
use Rattle.std.specs.Prelude.{ℕ, Bool, true, ◌||◌, ◌&&◌, cond, List, [], ◌∷◌, ◌++◌, map, eqb, leb, length, take}
use Rattle.zigbee_types.specs.Outcome.{Outcome, answer, refusal, mapped}
use Rattle.zigbee_types.specs.Layout.{behind, entries_at}
use Rattle.zigbee_types.specs.Lists.{any, filter}
use Rattle.simple_descriptor.specs.SimpleDescriptor.{Endpoint}
use Rattle.zdo_requests.specs.declared.descriptor.MatchDescReq.{MatchDescReq}
use Rattle.zdo_device.specs.Tables.{Pools, used, record_fits, good_records, good_device, resolved_in}
use Rattle.zdo_device.specs.declared.descriptor.EndpointDescriptor.{EndpointDescriptor}
use Rattle.zdo_device.specs.declared.descriptor.DeviceDescriptorConfig.{DeviceDescriptorConfig}

-- what a match request looks for
pub record Wanted : Type 0 where
  pub profile : ℕ
  pub inputs : List ℕ
  pub outputs : List ℕ

-- what a request asks for: its profile, and the clusters of its two lists, read from the payload, two bytes for each
unfoldable pub wanted : MatchDescReq → List ℕ → Wanted
wanted q payload =
    record { profile = q.profile_id; inputs = entries_at 2 payload q.input_clusters; outputs = entries_at 2 payload q.output_clusters }

-- 0xFFFF stands for every profile
unfoldable pub profile_matches : ℕ → ℕ → Bool
profile_matches asked own = eqb asked 0xFFFF || eqb asked own

-- is a cluster asked for among one's own?
unfoldable pub shared : List ℕ → List ℕ → Bool
shared asked own = any (λ cluster. any (eqb cluster) own) asked

-- the profile matches, and a requested input is among the inputs or a requested output among the outputs
unfoldable pub matches : Wanted → Endpoint → Bool
matches w e = profile_matches w.profile e.profile_id && (shared w.inputs e.input_clusters || shared w.outputs e.output_clusters)

-- the numbers of the matching endpoints, in table order
unfoldable pub match_list : Wanted → List Endpoint → List ℕ
match_list w endpoints = map (λ e. e.endpoint) (filter (matches w) endpoints)

-- do a request's two lists end within the payload? If not, refusal 3. A list without clusters must start there too.
unfoldable pub good_places : MatchDescReq → List ℕ → Bool
good_places q payload = leb (behind 2 q.input_clusters) (length payload) && leb (behind 2 q.output_clusters) (length payload)

-- what is found among good records: refusal 3, or the list
unfoldable pub matched_in : Pools → List EndpointDescriptor → MatchDescReq → List ℕ → Outcome (List ℕ)
matched_in p records q payload = cond (good_places q payload) (answer (match_list (wanted q payload) (resolved_in p records))) (refusal 3)

-- matching over a run of records: refusal 1 where they are not good
unfoldable pub matched_records : Pools → List EndpointDescriptor → MatchDescReq → List ℕ → Outcome (List ℕ)
matched_records p records q payload = cond (good_records p records) (matched_in p records q payload) (refusal 1)

-- `matching_endpoints`: refusal 1 where the device's tables are not good
unfoldable pub matching_endpoints : Pools → DeviceDescriptorConfig → MatchDescReq → List ℕ → Outcome (List ℕ)
matching_endpoints p d q payload = cond (good_device p d) (matched_in p (used d) q payload) (refusal 1)

-- ---- one record's turn. What was found is how many numbers stand at the front of the buffer, or a refusal.

-- a turn may be taken: those numbers stand within the buffer, and record and request were checked. After a refusal it always may.
unfoldable pub may_match : Pools → EndpointDescriptor → MatchDescReq → List ℕ → ℕ → Outcome ℕ → Bool
may_match p e q payload room (answer k) = leb k room && record_fits p e && good_places q payload
may_match p e q payload room (refusal n) = true

-- what is found then: those numbers, and the record's behind them where it matches. A refusal stays.
unfoldable pub matched_with : Wanted → Endpoint → List ℕ → Outcome ℕ → Outcome (List ℕ)
matched_with w e buffer found = mapped (λ k. take k buffer ++ match_list w (e ∷ [])) found
