mod LittleEndian
