-- In every case of the table, K1 to K11 and the sample among them, the definitions say what document 01 says: both sides
-- compute to the same. Assumes nothing.
use mathlib.Core.Path.{refl}
use Rattle.zigbee_types.specs.Lists.{any, all, filter, find, option}
use Rattle.zigbee_types.specs.Outcome.{and_then, mapped, needing, fitted, written, begun_length, begun}
use Rattle.zigbee_types.specs.Bytes.{le, number, number_at, bit_at, bit}
use Rattle.zigbee_types.specs.Layout.{laid, size, fields_at, parsed, counted, behind, listed, entries_at, lists_in}
use Rattle.zigbee_types.specs.Named.{named}
use Rattle.zigbee_types.specs.Answers.{says}
use Rattle.node_descriptor.specs.NodeDescriptor.{logical_type_of, node_byte0, node_byte1, node_descriptor_of, node_widths, node_descriptor_in}
use Rattle.power_names.specs.Names.{current_power_mode_of, power_source_of, current_power_source_level_of, source_bitmap}
use Rattle.node_power_descriptor.specs.PowerDescriptor.{power_byte0, power_byte1, power_descriptor_of, power_widths, common, supports, usable, power_descriptor_in}
use Rattle.simple_descriptor.specs.SimpleDescriptor.{simple_header, simple_descriptor_of, cluster_count, simple_written, simple_widths, simple_of, simple_descriptor_in}
use Rattle.aps_binding.specs.Entry.{zero_binding, key, alike, same, formed}
use Rattle.aps_binding_table.specs.Held.{holds, without, bound_as, bound, unbound_as, unbound}
use Rattle.aps_binding_table.specs.Table.{empty_table, good_table, held, placed, on_good, create_binding_link, remove_binding_link, table_left}
use Rattle.aps_binding_table.specs.Answers.{link_says}
use Rattle.zdo_requests.specs.Requests.{nwk_addr_req_in, ieee_addr_req_in, addr_of_interest_widths, addr_of_interest_req_in, addr_of_interest_in, simple_desc_req_in, match_widths, match_req_of, match_desc_req_in, bind_widths, bind_req_of, group_in, device_in, destination_in, bind_req_in, binding_to, binding_of, option_ieee, mgmt_leave_req_in, addr_of_interest_fields, node_desc_req}
use Rattle.zdo_replies.specs.Replies.{header, node_desc_rsp, power_desc_rsp, descriptor_rsp_error, endpoint_list, list_rsp, empty_rsp, match_error_fields, match_desc_rsp_error, described_rsp, addr_header, addr_rsp_single, addr_rsp_extended, addr_rsp, status_fields, status_rsp}
use Rattle.zdo_readers.specs.Readers.{header_widths, header_in, descriptor_reply_in, node_reply_in, power_reply_in, server_mask_in, node_desc_rsp_in, stack_revision_of, associated_in, addr_widths, addr_reply_in, status_widths, status_reply_in}
use Rattle.zdo_list_readers.specs.ListReaders.{list_behind, list_reply_in, match_error_widths, match_reply_in_as, match_reply_in, shifted, shifted_fields, simple_within, simple_reply_in}
use Rattle.zdo_device.specs.Tables.{used, endpoint_record, supports_endpoint, record_fits, good_sizes, good_records, good_device, endpoint_of, resolved_in, clusters_of, endpoint_clusters}
use Rattle.zdo_matching.specs.Matching.{wanted, profile_matches, shared, matches, match_list, good_places, matched_in, matched_records, matching_endpoints}
use Rattle.zdo_matching.specs.Answers.{matching_says}
use Rattle.zdo_device_rsp.specs.TableReplies.{numbers, active_rsp_of, active_records, active_ep_rsp, simple_rsp_of, simple_desc_rsp}
use Rattle.zdo_discovery.specs.Host.{asking, good_host, resolved}
use Rattle.zdo_discovery.specs.Discovery.{our_address, on_nwk_addr, on_ieee_addr, not_ours, about, on_node, on_power, on_simple, on_active, on_match, discovery, discovered}
use Rattle.zdo_dispatcher.specs.Answers.{step_of, source_status, link_step, link_answer, on_link, by_cluster, answered, table_after, buffer_after, told_of}
use Rattle.lines.specs.Lines.{begins, lines_of, line_within, lines_within}
use Rattle.lines.specs.Chunks.{joined}
use Rattle.hex_lines.specs.Hex.{between, digit_value, is_digit, bytes_in, capital, digits_of}
use Rattle.hex_lines.specs.RequestLine.{is_request, cluster_in, request_in, hex_line}
use Rattle.decimal.specs.Decimal.{digits_within, decimal}
use Rattle.answer_lines.specs.Session.{text_of, heard, unheard, said, spoken, count_text, closing, session, answers}
use Rattle.demands.specs.Cases.{run}
use Rattle.demands.specs.CounterCases.{K1, K2, K3, K4, K5, K6, K7, K8, K9, K10, K11}
use Rattle.demands.specs.ProgramCases.{Sample, Typed, Long, Ending, Full}
use Rattle.demands.specs.DispatchCases.{NwkAddr, IeeeAddr, Elsewhere, Ours, Sequence, HostTables, Linking, Shifting, RefusalOrder, Left, Telling}
use Rattle.demands.specs.RequestCases.{AddrPayloads, InterestPayloads, MatchPayloads, BindPayloads, RequestedEntries, LeavePayloads}
use Rattle.demands.specs.ReplyCases.{DescriptorReplies, ListReplies, SimpleReplies, AddressReplies, StatusReplies}
use Rattle.demands.specs.DeviceCases.{Matching, Repeated, Records, Supported, Numbers, NoRecords, LongList, Parts, TableChecks, RecordChecks, Crowded}
use Rattle.demands.specs.MatchingCases.{MatchingAnswers, Profiles, BothLists, PlaceChecks, Buffers}
use Rattle.demands.specs.Calls.{called, told, next}
use Rattle.demands.specs.Runs.{left, how_many}
use Rattle.demands.specs.History.{succeeded, adds, removes}
use Rattle.demands.specs.BindingCases.{Equality, Formed, LinkStatuses, Links, LeftTables, Counted}
use Rattle.demands.specs.ReaderCases.{ReadDescriptors, ReadLists, ReadSimple, ReadAddresses, DefaultNode, ReservedNumbers, NamedNumbers, SourceSets, FlagBits, StatusCodes}
use Rattle.demands.specs.Claim.{cases, CounterCases}

pub counter_cases : CounterCases
unfolding any all filter find option and_then mapped needing fitted written begun_length begun le number number_at bit_at bit laid size fields_at parsed counted behind entries_at lists_in named logical_type_of node_byte0 node_byte1 node_descriptor_of node_widths node_descriptor_in current_power_mode_of power_source_of current_power_source_level_of source_bitmap power_byte0 power_byte1 power_descriptor_of power_widths common supports usable power_descriptor_in listed simple_header simple_descriptor_of cluster_count simple_written simple_widths simple_of simple_descriptor_in zero_binding key alike same formed holds without bound_as bound unbound_as unbound empty_table good_table held placed on_good create_binding_link remove_binding_link table_left nwk_addr_req_in ieee_addr_req_in addr_of_interest_widths addr_of_interest_req_in addr_of_interest_in simple_desc_req_in match_widths match_req_of match_desc_req_in bind_widths bind_req_of group_in device_in destination_in bind_req_in binding_to binding_of option_ieee mgmt_leave_req_in addr_of_interest_fields node_desc_req header node_desc_rsp power_desc_rsp descriptor_rsp_error endpoint_list list_rsp empty_rsp match_error_fields match_desc_rsp_error described_rsp addr_header addr_rsp_single addr_rsp_extended addr_rsp status_fields status_rsp header_widths header_in descriptor_reply_in node_reply_in power_reply_in server_mask_in node_desc_rsp_in stack_revision_of list_behind list_reply_in match_error_widths match_reply_in_as match_reply_in shifted shifted_fields simple_within simple_reply_in associated_in addr_widths addr_reply_in status_widths status_reply_in used endpoint_record supports_endpoint record_fits good_sizes good_records good_device endpoint_of resolved_in clusters_of endpoint_clusters wanted profile_matches shared matches match_list good_places matched_in matched_records matching_endpoints matching_says says numbers active_rsp_of active_records active_ep_rsp simple_rsp_of simple_desc_rsp asking good_host resolved our_address on_nwk_addr on_ieee_addr not_ours about on_node on_power on_simple on_active on_match discovery discovered step_of source_status link_step link_answer on_link by_cluster answered table_after buffer_after told_of run K1 K2 K3 K4 K5 K6 K7 K8 K9 K10 K11 joined begins lines_of line_within lines_within between digit_value is_digit bytes_in capital digits_of is_request cluster_in request_in hex_line digits_within decimal text_of heard unheard said spoken count_text closing session answers Sample Typed Long Ending Full NwkAddr IeeeAddr Elsewhere Ours Sequence HostTables Linking Shifting RefusalOrder Left Telling AddrPayloads InterestPayloads MatchPayloads BindPayloads RequestedEntries LeavePayloads DescriptorReplies ListReplies SimpleReplies AddressReplies StatusReplies Matching Repeated Records Supported Numbers NoRecords LongList Parts TableChecks RecordChecks Crowded MatchingAnswers Profiles BothLists PlaceChecks Buffers called next left link_says Equality Formed LinkStatuses Links LeftTables Counted told succeeded adds removes how_many ReadDescriptors ReadLists ReadSimple ReadAddresses DefaultNode ReservedNumbers NamedNumbers SourceSets FlagBits StatusCodes cases CounterCases
counter_cases = refl
