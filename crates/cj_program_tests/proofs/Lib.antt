mod NoDumps
